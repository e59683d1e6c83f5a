-- The use that `first` makes of the table: which configurations it publishes, and what is run in a section of each.
use Rattle.std.specs.Prelude.{◌≡◌, ◌++◌, ◌∷◌, List, None, Option, Some, [], length, min, suc, ℕ}
use Rattle.bpf_machine.specs.declared.Outcome.{Outcome}
use Rattle.bpf_machine.specs.Meaning.{Ret, cost_of, ending_of}
use Rattle.bpf_verify.specs.Program.{ProgramValue}
use Rattle.config_image.specs.Image.{Group}
use Rattle.versions.specs.declared.view.OperatorView.{OperatorView}
use Rattle.versions.specs.Free.{number_after}
use Rattle.read_section.specs.Operator.{IsCurrent, OperatorValue, opened_operator}
use Rattle.read_section.specs.Section.{HoldsLastSeen, IsWholeSection, held_version}
use Rattle.read_section.specs.Worker.{WorkerValue}
use Rattle.command_line.specs.declared.sample.TheConstants.{SAMPLE_GROUP, SAMPLE_PACKET}
use Rattle.command_query.specs.declared.first_path.Line.{Line}

-- the sample group alone, without members, with a selector of these words, each charged once
pub record Selects (selector : List ℕ) (config : List Group) : Type 0 where
  pub program : ProgramValue
  pub words : program.words ≡ selector
  pub charge : program.charge ≡ length selector
  pub one_group : config ≡ record { key = SAMPLE_GROUP; selector = Some program; members = [] } ∷ []

-- the configuration published last has this selector
abbrev pub SelectsNow : List ℕ → OperatorView (List Group) → Type 0
SelectsNow selector view = (config : List Group) × IsCurrent view config × Selects selector config

-- the words were run on the sample packet
abbrev pub IsRunOf : List ℕ → Option Outcome → Type 0
IsRunOf selector None = ⊥
IsRunOf selector (Some outcome) = (ending_of selector SAMPLE_PACKET.now ≡ Ret outcome.value) × (outcome.steps ≡ cost_of selector SAMPLE_PACKET.now)

-- in one whole section of a worker the selector of its version was run
pub record RunsInSection (before after : WorkerValue) (version : ℕ) (outcome : Option Outcome) : Type 0 where
  pub inside : WorkerValue
  pub section : IsWholeSection before inside after
  pub last_seen : HoldsLastSeen inside
  pub is_version : version ≡ held_version inside
  pub runs : (selector : List ℕ) → Selects selector last_seen.config → IsRunOf selector outcome

-- the line of the current version, whose selector is run on the sample packet
pub record IsLineOf (selector : List ℕ) (view : OperatorView (List Group)) (line : Line) : Type 0 where
  pub version : length view.published ≡ suc line.version
  pub value : ending_of selector SAMPLE_PACKET.now ≡ Ret line.value
  pub steps : line.steps ≡ cost_of selector SAMPLE_PACKET.now
  pub kept : line.kept ≡ min line.value (length SAMPLE_PACKET.now)

-- nothing was published
pub record PublishesNothing (before after : OperatorValue) : Type 0 where
  pub table : after.table ≡ before.table
  pub published : after.view.published ≡ before.view.published
  pub version_rows : after.view.version_rows ≡ before.view.version_rows
  pub number : number_after after.view.log ≡ number_after before.view.log

-- the operator and a worker of one table, which opened with a configuration of this selector
pub record IsOpenedWith (selector : List ℕ) (operator : OperatorValue) (worker : WorkerValue) : Type 0 where
  pub config : List Group
  pub selects : Selects selector config
  pub opened : operator ≡ opened_operator operator.table config
  pub table : worker.table ≡ operator.table

-- a configuration of this selector is the next version
pub record PublishesProgram (selector : List ℕ) (before after : OperatorValue) : Type 0 where
  pub config : List Group
  pub selects : Selects selector config
  pub published : after.view.published ≡ before.view.published ++ config ∷ []
  pub table : after.table ≡ before.table
