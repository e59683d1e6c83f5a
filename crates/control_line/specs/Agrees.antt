-- Configurations over the programs of texts, and when one agrees with the operator's.
use Rattle.std.specs.Prelude.{◌≡◌, List, ℕ}
use Rattle.bpf_machine.specs.Meaning.{ending_of}
use Rattle.bpf_verify.specs.Program.{ProgramValue}
use Rattle.filter_compile.specs.Answer.{IsPacket}
use Rattle.config_image.specs.Image.{Group}
use Rattle.member_group.specs.Group.{GroupOf}
use Rattle.member_group.specs.Over.{config_over}
use Rattle.versions.specs.declared.view.OperatorView.{OperatorView}
use Rattle.read_section.specs.Operator.{IsCurrent}
use Rattle.filter_tree.specs.Tree.{Tree}
use Rattle.filter_program.specs.Program.{IsMeaningOf, Source, TextProgram, of_tree, of_words, text_charge, text_ending}

-- a program as it was loaded: what its text means, and its words
pub record LoadedProgram : Type 0 where
  pub text : TextProgram
  pub words : List ℕ

-- which words the compiler may make of an expression
abbrev pub Compiler : Type 1
Compiler = Tree → List ℕ → Type 0

-- the words of a program: those that the assembly writes, or those that the compiler made of the expression
abbrev pub AreWordsOf : Compiler → TextProgram → List ℕ → Type 0
AreWordsOf by (of_words words) loaded = loaded ≡ words
AreWordsOf by (of_tree tree) loaded = by tree loaded

-- the program that is loaded from a text
pub record IsLoadedBy (by : Compiler) (source : Source) (program : LoadedProgram) : Type 0 where
  pub means : IsMeaningOf source program.text
  pub words : AreWordsOf by program.text program.words

abbrev pub TextConfig : Type 0
TextConfig = List (GroupOf LoadedProgram)

-- a program of the operator's is the loaded one: the same words, the charge of the text, and its ending on every packet
pub record Agreeing : Type 0 where
  pub loaded : LoadedProgram
  pub program : ProgramValue
  pub words : program.words ≡ loaded.words
  pub charge : program.charge ≡ text_charge loaded.text
  pub ending : (packet : List ℕ) → IsPacket packet → ending_of program.words packet ≡ text_ending loaded.text packet

-- two configurations are the sides of one whose programs are pairs that agree: they have the same keys, the same members with
-- the same locks, and a program in the same places, with the same words, the same charge and the same ending on every packet
-- The reason: docs/INTERNALS.md, "A configuration of texts".
abbrev pub Agrees : TextConfig → List Group → Type 0
Agrees text config =
    (pairs : List (GroupOf Agreeing))
    × (text ≡ config_over (λ both. both.loaded) pairs)
    × (config ≡ config_over (λ both. both.program) pairs)

-- a configuration agrees with the one that the operator published last
abbrev pub AgreesNow : TextConfig → OperatorView (List Group) → Type 0
AgreesNow text view = (config : List Group) × IsCurrent view config × Agrees text config
