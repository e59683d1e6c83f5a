-- The codes of faults (docs/COMMANDS.md, "Refusals").
use Rattle.std.specs.Prelude.{codes}
use Rattle.fault_code.specs.Code.{at, plain}
use Rattle.fault_code.specs.declared.Code.{Code}
use Rattle.bpf_verify.specs.declared.fault.Fault.{Fault}
use Rattle.bpf_verify.specs.declared.fault.Fault.TheVariants.{Ancillary, BadCell, BadOpcode, BadShift, Empty, JumpOutside, NoReturn, StrayField, TooLong, UnstoredCell, ZeroDivisor}

-- of an instruction with the place from 0 on that is at fault
abbrev pub verify_code : Fault → Code
verify_code Empty = plain (codes "V") 1
verify_code TooLong = plain (codes "V") 2
verify_code (BadOpcode pc) = at (codes "V") 3 pc
verify_code (StrayField pc) = at (codes "V") 4 pc
verify_code (ZeroDivisor pc) = at (codes "V") 5 pc
verify_code (BadShift pc) = at (codes "V") 6 pc
verify_code (BadCell pc) = at (codes "V") 7 pc
verify_code (JumpOutside pc) = at (codes "V") 8 pc
verify_code (Ancillary pc) = at (codes "V") 9 pc
verify_code NoReturn = plain (codes "V") 10
verify_code (UnstoredCell pc) = at (codes "V") 11 pc
