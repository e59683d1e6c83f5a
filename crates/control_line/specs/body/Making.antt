-- The results of the steps from a line to its answer: a program, a command, the next configuration, an answer.
use Rattle.std.specs.Prelude.{◌≡◌, ◌<◌, ◌^◌, Err, List, None, Ok, Option, Result, Some, length}
use Rattle.bpf_verify.specs.Program.{ProgramValue}
use Rattle.config_image.specs.Image.{Group}
use Rattle.member_group.specs.Charge.{charge_of, members_of}
use Rattle.member_group.specs.Command.{after}
use Rattle.member_group.specs.Refusal.{first_refusal}
use Rattle.member_group.specs.declared.command.Command.{Command}
use Rattle.member_group.specs.declared.refusal.Refusal.{Refusal}
use Rattle.member_group.specs.Over.{command_over}
use Rattle.versions.specs.Free.{number_after}
use Rattle.versions.specs.declared.view.OperatorView.{OperatorView}
use Rattle.read_section.specs.Operator.{IsCurrent, OperatorValue}
use Rattle.control_line.specs.declared.program.LineFault.{LineFault}
use Rattle.control_line.specs.declared.program.LineFault.TheVariants.{OutOfMemory, Refused}
use Rattle.control_line.specs.declared.reason.Reason.{Reason}
use Rattle.control_line.specs.declared.reason.Reason.TheVariants as reason
use Rattle.control_line.specs.declared.reply.LineAnswer.{LineAnswer}
use Rattle.control_line.specs.declared.reply.LineAnswer.TheVariants as answer
use Rattle.control_line.specs.Agrees.{Agreeing, Agrees, AgreesNow, IsLoadedBy, TextConfig}
use Rattle.control_line.specs.Answer.{Changes, Does, LeadsTo, Means, PublishesText, Refuses, program_in}
use Rattle.control_line.specs.Reason.{IsRefusalOfText, reason_of_text}
use Rattle.filter_program.specs.Program.{IsProgramFor, Source}
use Rattle.filter_program.specs.declared.fault.TextFault.{TextFault}

-- this program agrees with one that the text is
abbrev pub IsMade : Source → ProgramValue → Type 0
IsMade source program = (both : Agreeing) × IsLoadedBy IsProgramFor source both.loaded × (program ≡ both.program)

-- a refusal of a text, or lack of memory
abbrev pub fault_of_line : Option Reason → LineFault
fault_of_line None = OutOfMemory
fault_of_line (Some why) = Refused why

abbrev pub line_fault_of : TextFault → LineFault
line_fault_of fault = fault_of_line (reason_of_text fault)

-- a text is refused for its fault; lack of memory may come in its place
abbrev pub IsLineFaultOf : Source → LineFault → Type 0
IsLineFaultOf source (Refused why) = IsRefusalOfText source why
IsLineFaultOf source OutOfMemory = Unit {0}

-- this command agrees with one that the texts make
abbrev pub IsMadeCommand : Command Source → Command ProgramValue → Type 0
IsMadeCommand command made =
    (both : Command Agreeing)
    × Means command (command_over (λ program. program.loaded) both)
    × (made ≡ command_over (λ program. program.program) both)

abbrev pub IsLineFaultOfCommand : Command Source → LineFault → Type 0
IsLineFaultOfCommand command (Refused why) = (source : Source) × (program_in command ≡ Some source) × IsRefusalOfText source why
IsLineFaultOfCommand command OutOfMemory = Unit {0}

-- this is what a command makes of a configuration that does not refuse it
pub record IsNext (command : Command ProgramValue) (config next : List Group) : Type 0 where
  pub applied : first_refusal command config ≡ None
  pub is : next ≡ after command config

abbrev pub IsRefusedFor : Option Refusal → LineFault → Type 0
IsRefusedFor first (Refused why) = (refusal : Refusal) × (first ≡ Some refusal) × (why ≡ reason.Command refusal)
IsRefusedFor first OutOfMemory = Unit {0}

-- a change is done, or refused, for each configuration that agrees with the operator's
abbrev pub IsChangeDone : Command Source → List Group → List Group → Type 0
IsChangeDone command config next =
    (text : TextConfig) → Agrees text config → (after : TextConfig) × LeadsTo text command after × Agrees after next

-- no fault of a publication
abbrev pub IsOwnFault : Reason → Type 0
IsOwnFault (reason.Publishing fault) = ⊥
IsOwnFault _ = Unit {0}

abbrev pub IsChangeFault : Command Source → List Group → LineFault → Type 0
IsChangeFault command config (Refused why) = IsOwnFault why × ((text : TextConfig) → Agrees text config → Refuses text command why)
IsChangeFault command config OutOfMemory = Unit {0}

-- a configuration that agrees with one of texts is published, or refused
pub record IsPublication (next : List Group) (before after : OperatorValue) (answer : LineAnswer) : Type 0 where
  pub steps : Does answer before after
  pub text : (config made : TextConfig) → AgreesNow config before.view → Agrees made next →
      (left : TextConfig) × PublishesText (number_after before.view.log) config made answer left × AgreesNow left after.view

-- a change has its answer, for each configuration that agrees with the operator's
pub record IsChanged (command : Command Source) (before after : OperatorValue) (answer : LineAnswer) : Type 0 where
  pub steps : Does answer before after
  pub text : (config : TextConfig) → AgreesNow config before.view →
      (next : TextConfig) × Changes (number_after before.view.log) config command answer next × AgreesNow next after.view

-- the version and the measures of the configuration that was published last
abbrev pub IsShown : OperatorView (List Group) → LineAnswer → Type 0
IsShown view given =
    (config : List Group)
    × IsCurrent view config
    × (given ≡ answer.Shown (number_after view.log) (length config) (members_of config) (charge_of config))

-- an answer, or a refusal as one, or lack of memory with nothing done
abbrev pub IsOutcome : (OperatorValue → OperatorValue → LineAnswer → Type 0) → OperatorValue → OperatorValue → Result LineAnswer LineFault → Type 0
IsOutcome IsGiven before after (Ok given) = IsGiven before after given
IsOutcome IsGiven before after (Err (Refused why)) = IsGiven before after (answer.Refused why)
IsOutcome IsGiven before after (Err OutOfMemory) = after ≡ before

-- its numbers are small enough for a reply
abbrev pub IsShort : LineAnswer → Type 0
IsShort (answer.GroupRead version index groups key members selector) = (groups < 10 ^ 4) × (members < 10 ^ 4) × (selector < 10 ^ 4)
IsShort (answer.MemberRead version index members id to filter locked) = (members < 10 ^ 4) × (filter < 10 ^ 4)
IsShort (answer.WordsRead version place count words) = (version < 10 ^ 15) × (count < 10 ^ 4)
IsShort _ = Unit {0}
