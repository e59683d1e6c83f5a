-- Faults as the stops of a command (docs/COMMANDS.md, "Refusals").
use Rattle.std.specs.Prelude.{◌≡◌, Err, List, None, Ok, Option, Result, Some, suc, ℕ}
use Rattle.control_line.specs.declared.reason.Reason.{Reason}
use Rattle.control_line.specs.Reason.{reason_of_text}
use Rattle.bpf_formats.specs.declared.fault.FormatFault.{FormatFault}
use Rattle.bpf_formats.specs.declared.fault.FormatFault.TheVariants as format_fault
use Rattle.filter_program.specs.declared.fault.TextFault.{TextFault}
use Rattle.command_line.specs.declared.ending.Failure.TheVariants.{OutOfMemory, ReadFailed}
use Rattle.command_query.specs.Format.{IsFormatFault, IsRefusalOfProgram}
use Rattle.command_query.specs.declared.format.InputFormat.{InputFormat}
use Rattle.command_query.specs.declared.stop.Stop.{Stop}
use Rattle.command_query.specs.declared.stop.Stop.TheVariants.{Failed, Misformed, Refused}

-- a fault refuses, but lack of memory fails
abbrev pub stop_for : Option Reason → Stop
stop_for None = Failed OutOfMemory
stop_for (Some reason) = Refused reason

abbrev pub stop_of_text : TextFault → Stop
stop_of_text fault = stop_for (reason_of_text fault)

abbrev pub stop_of_format : FormatFault → Stop
stop_of_format (format_fault.Syntax line) = Misformed (format_fault.Syntax line)
stop_of_format format_fault.Count = Misformed format_fault.Count
stop_of_format format_fault.OutOfMemory = Failed OutOfMemory

-- a command stopped by a refusal of this kind, or for lack of memory
abbrev pub IsStopBy : (Reason → Type 0) → Stop → Type 0
IsStopBy refuses (Refused reason) = refuses reason
IsStopBy refuses (Misformed fault) = ⊥
IsStopBy refuses (Failed failure) = failure ≡ OutOfMemory

-- a command stopped by the fault of a program's text, or for lack of memory
abbrev pub IsStopByProgram : InputFormat → List ℕ → Stop → Type 0
IsStopByProgram format text (Refused reason) = IsRefusalOfProgram format text reason
IsStopByProgram format text (Misformed fault) = IsFormatFault format text fault
IsStopByProgram format text (Failed failure) = failure ≡ OutOfMemory

-- one read of the input failed if the stop is a failure to read, and else none
abbrev pub StopsByInput : {A : Type 0} → Result A Stop → ℕ → ℕ → Type 0
StopsByInput (Ok found) before after = after ≡ before
StopsByInput (Err (Failed ReadFailed)) before after = after ≡ suc before
StopsByInput (Err stop) before after = after ≡ before
