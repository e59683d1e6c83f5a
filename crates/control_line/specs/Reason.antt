-- Why lines are refused, and the text of a refusal (docs/COMMANDS.md, "Refusals").
use Rattle.std.specs.Prelude.{◌≡◌, ◌++◌, List, None, Option, Some, codes, ℕ}
use Rattle.fault_code.specs.Code.{at, code_text, plain}
use Rattle.fault_code.specs.declared.Code.{Code}
use Rattle.member_group.specs.Code.{command_code}
use Rattle.filter_program.specs.Code.{text_code}
use Rattle.filter_program.specs.Fault.{IsAssemblyFault, IsExpressionFault, IsFaultOfText}
use Rattle.filter_program.specs.Program.{Source}
use Rattle.filter_program.specs.declared.fault.TextFault.{TextFault}
use Rattle.filter_program.specs.declared.fault.TextFault.TheVariants.{OutOfMemory}
use Rattle.retire.specs.Code.{publish_code}
use Rattle.control_line.specs.declared.reason.Reason.{Reason}
use Rattle.control_line.specs.declared.reason.Reason.TheVariants.{BadForm, Command, LineTooLong, OtherVersion, PacketTooLong, Publishing, Text}

abbrev pub reason_code : Reason → Code
reason_code BadForm = plain (codes "C") 1
reason_code LineTooLong = plain (codes "C") 2
reason_code PacketTooLong = plain (codes "C") 3
reason_code (Text fault) = text_code fault
reason_code (Command refusal) = command_code refusal
reason_code (Publishing fault) = publish_code fault
reason_code (OtherVersion current) = at (codes "M") 1 current

-- `refused CODE` or `refused CODE NUMBER`
abbrev pub refusal_text : Reason → List ℕ
refusal_text reason = codes "refused " ++ code_text (reason_code reason)

-- ---- the texts of programs

-- the refusal of a text for its fault; lack of memory refuses no text
abbrev pub reason_of_text : TextFault → Option Reason
reason_of_text OutOfMemory = None
reason_of_text fault = Some (Text fault)

-- a text is refused for its fault
abbrev pub IsRefusalFor : (TextFault → Type 0) → Reason → Type 0
IsRefusalFor IsFault reason = (fault : TextFault) × IsFault fault × (reason_of_text fault ≡ Some reason)

abbrev pub IsRefusalOfAssembly : List ℕ → Reason → Type 0
IsRefusalOfAssembly text reason = IsRefusalFor (IsAssemblyFault text) reason

abbrev pub IsRefusalOfExpression : List ℕ → Reason → Type 0
IsRefusalOfExpression text reason = IsRefusalFor (IsExpressionFault text) reason

abbrev pub IsRefusalOfText : Source → Reason → Type 0
IsRefusalOfText source reason = IsRefusalFor (IsFaultOfText source) reason
