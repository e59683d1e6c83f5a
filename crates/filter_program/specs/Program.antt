-- The meaning of a program's text: accepted words, or the tree of an expression; and the programs made from it. The meaning
-- contains no compiled instruction (docs/MACHINE.md, "Assembly text"; docs/EXPRESSIONS.md).
use Rattle.std.specs.Prelude.{◌≡◌, ◌≤◌, List, length, ℕ}
use Rattle.bpf_asm.specs.Assembly.{Assembles}
use Rattle.bpf_machine.specs.Meaning.{Ending, Ret, ending_of}
use Rattle.bpf_verify.specs.Accepted.{IsAccepted}
use Rattle.bpf_verify.specs.Program.{ProgramValue}
use Rattle.bpf_verify.specs.declared.TheConstants.{CELLS, MAX_INSTRUCTIONS}
use Rattle.filter_compile.specs.Answer.{AnswersFor, answer_of}
use Rattle.filter_parse.specs.Fault.{HasTree}
use Rattle.filter_tree.specs.Measure.{cells_of, size_of}
use Rattle.filter_tree.specs.Tree.{Tree}
use Rattle.filter_tree.specs.Truth.{truth_of}

-- the text of a program: assembly, or a filter expression
pub data Source : Type 0 where
  assembly : List ℕ → Source
  expression : List ℕ → Source

-- ---- the meaning of a text

-- the text is assembled to these words, and they are accepted
pub record IsAssembledTo (text words : List ℕ) : Type 0 where
  pub assembled : Assembles text words
  pub accepted : IsAccepted words

-- the text is an expression with this tree, which is not too large to be compiled
pub record IsCompilable (text : List ℕ) (tree : Tree) : Type 0 where
  pub tree_is : HasTree text tree
  pub cells : cells_of tree ≤ CELLS
  pub size : size_of tree ≤ MAX_INSTRUCTIONS

pub data TextProgram : Type 0 where
  of_words : List ℕ → TextProgram
  of_tree : Tree → TextProgram

-- the program that a text means
abbrev pub IsMeaningOf : Source → TextProgram → Type 0
IsMeaningOf (assembly text) (of_words words) = IsAssembledTo text words
IsMeaningOf (expression text) (of_tree tree) = IsCompilable text tree
IsMeaningOf (assembly text) (of_tree tree) = ⊥
IsMeaningOf (expression text) (of_words words) = ⊥

-- words are charged by their number, an expression by its size
abbrev pub text_charge : TextProgram → ℕ
text_charge (of_words words) = length words
text_charge (of_tree tree) = size_of tree

-- words end as the machine says, an expression with 65535 if it is true and 0 if it is not
abbrev pub text_ending : TextProgram → List ℕ → Ending
text_ending (of_words words) packet = ending_of words packet
text_ending (of_tree tree) packet = Ret (answer_of (truth_of tree packet))

-- ---- the program made from a text

-- the words of the text, charged by their number
pub record IsProgramOfAssembly (text : List ℕ) (program : ProgramValue) : Type 0 where
  pub assembled : IsAssembledTo text program.words
  pub charge : program.charge ≡ length program.words

-- an accepted program with the answers of the tree, within its size
pub record IsProgramFor (tree : Tree) (words : List ℕ) : Type 0 where
  pub accepted : IsAccepted words
  pub answers : AnswersFor tree words
  pub within_size : length words ≤ size_of tree

-- a program for the text's tree, charged by its size
pub record IsProgramOfExpression (text : List ℕ) (program : ProgramValue) : Type 0 where
  pub tree : Tree
  pub compilable : IsCompilable text tree
  pub program_for : IsProgramFor tree program.words
  pub charge : program.charge ≡ size_of tree
