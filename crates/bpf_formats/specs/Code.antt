-- The codes of faults (docs/COMMANDS.md, "Refusals").
use Rattle.std.specs.Prelude.{codes}
use Rattle.fault_code.specs.Code.{at, plain}
use Rattle.fault_code.specs.declared.Code.{Code}
use Rattle.bpf_formats.specs.declared.fault.FormatFault.{FormatFault}
use Rattle.bpf_formats.specs.declared.fault.FormatFault.TheVariants.{Count, OutOfMemory, Syntax}

-- with the line, from 1 on, that is at fault
abbrev pub format_code : FormatFault → Code
format_code (Syntax line) = at (codes "K") 1 line
format_code Count = plain (codes "K") 2
format_code OutOfMemory = plain (codes "K") 3
