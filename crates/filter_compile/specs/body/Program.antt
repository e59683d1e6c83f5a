-- What the program of an expression is.
use Rattle.std.specs.Prelude.{◌≤◌, List, length, ℕ}
use Rattle.bpf_verify.specs.Accepted.{IsAccepted}
use Rattle.filter_tree.specs.Measure.{size_of}
use Rattle.filter_tree.specs.Tree.{Tree}
use Rattle.filter_compile.specs.declared.TheConstants.{SHORT}
use Rattle.filter_compile.specs.Answer.{AnswersFor, HasFarJumpsOnly, HasNoFarJump}

-- the words are accepted, answer for the expression within its size, and have a JA only where it may be far
pub record IsCompiledTo (tree : Tree) (words : List ℕ) : Type 0 where
  pub answer : AnswersFor tree words
  pub within_size : length words ≤ size_of tree
  pub far_jumps : HasFarJumpsOnly (size_of tree) words
  pub no_far_jump : size_of tree ≤ SHORT → HasNoFarJump words
  pub accepted : IsAccepted words
