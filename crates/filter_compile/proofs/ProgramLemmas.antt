-- The whole program: the tests of an expression in front of the two instructions that return.
use Rattle.std.proofs.Common.{◌≡◌, ◌∙◌, ◌-◌, ◌<◌, ◌≤◌, List, arith, length, ℕ, ⊎_elim}
use Rattle.bpf_insn.specs.declared.instruction.Insn.TheVariants.{ReturnConstant}
use Rattle.bpf_verify.specs.declared.TheConstants.{MAX_INSTRUCTIONS}
use Rattle.bpf_verify.specs.Accepted.{IsAccepted}
use Rattle.bpf_machine.specs.Meaning.{Ret, mean, no_cells}
use Rattle.filter_emit.proofs.FinishLemmas.{IsFinished}
use Rattle.filter_emit.proofs.PushedLemmas.{mean_pushed, return_loads}
use Rattle.filter_tree.specs.declared.truth.Truth.{Truth}
use Rattle.filter_tree.specs.declared.truth.Truth.TheVariants.{Fails, No, Yes}
use Rattle.filter_tree.specs.Measure.{size_of, weight_of}
use Rattle.filter_tree.specs.Tree.{Tree}
use Rattle.filter_tree.specs.Truth.{truth_of}
use Rattle.filter_facts.specs.declared.known.Known.{Known}
use Rattle.filter_facts.specs.Known.{Holds}
use Rattle.filter_compile.specs.declared.TheConstants.{ACCEPTED, SHORT}
use Rattle.filter_compile.specs.Answer.{AnswersFor, HasFarJumpsOnly, HasNoFarJump, answer_of}
use Rattle.filter_compile.specs.body.Piece.{GoesBy, Tests}
use Rattle.filter_compile.specs.body.Program.{IsCompiledTo}

module _ (tree : Tree) (known if_yes if_no : Known) (yes_by no_by : ℕ) (program : List ℕ) (whole : IsFinished (Tests (Holds known) (Holds if_yes) (Holds if_no) (truth_of tree)) (weight_of tree) ACCEPTED 0 yes_by no_by program) where
  program_within : length program ≤ size_of tree
  program_within = let few = whole.within in omega arith

  program_accepted : size_of tree ≤ MAX_INSTRUCTIONS → IsAccepted program
  program_accepted fits =
      let few = whole.within in
      let loads = whole.meant.loads_stored (return_loads ACCEPTED whole.at_no whole.at_yes whole.accepts 0) (return_loads 0 _ whole.at_no whole.rejects 0) in record {
        not_empty = whole.not_empty;
        not_too_long = omega arith;
        faultless = whole.faultless;
        ends_in_return = whole.ends_in_return;
        stores_before = λ pc cell load earlier path. ⊎_elim (λ (low : cell < 0). absurd (omega arith)) (λ stored. stored) (loads pc cell load earlier path);
      }

  answered : (t : Truth) (packet : List ℕ) → GoesBy t (Holds if_yes) (Holds if_no) whole.at_yes whole.at_no program packet 0 0 no_cells → mean program 0 0 no_cells packet ≡ Ret (answer_of t)
  answered Yes packet h = h.4 ∙ mean_pushed (ReturnConstant ACCEPTED) whole.at_no whole.at_yes whole.accepts h.0 h.1 h.2 packet
  answered No packet h = h.4 ∙ mean_pushed (ReturnConstant 0) _ whole.at_no whole.rejects h.0 h.1 h.2 packet
  answered Fails packet h = h

  program_answers : ((packet : List ℕ) (a x : ℕ) → Holds known packet a x) → AnswersFor tree program
  program_answers nothing packet ok = answered (truth_of tree packet) packet (whole.meant.goes packet ok 0 0 no_cells (nothing packet 0 0))

  -- a JA has room for 255 instructions behind it
  program_far_jumps : yes_by ≡ size_of tree - 2 → no_by ≡ size_of tree - 1 → HasFarJumpsOnly (size_of tree) program
  program_far_jumps yes_is no_is pc k at = let f = whole.far_jumps (size_of tree - 1) (omega arith) (omega arith) pc k at in let beside = f.beside in let far = f.far in omega arith

  program_jumpless : yes_by ≡ size_of tree - 2 → no_by ≡ size_of tree - 1 → size_of tree ≤ SHORT → HasNoFarJump program
  program_jumpless yes_is no_is short pc k at = let far = (whole.far_jumps (size_of tree - 1) (omega arith) (omega arith) pc k at).far in omega arith

  pub is_program : size_of tree ≤ MAX_INSTRUCTIONS → yes_by ≡ size_of tree - 2 → no_by ≡ size_of tree - 1 → ((packet : List ℕ) (a x : ℕ) → Holds known packet a x) → IsCompiledTo tree program
  is_program fits yes_is no_is nothing = record {
    answer = program_answers nothing;
    within_size = program_within;
    far_jumps = program_far_jumps yes_is no_is;
    no_far_jump = program_jumpless yes_is no_is;
    accepted = program_accepted fits;
  }
