-- The codes of faults (docs/COMMANDS.md, "Refusals").
use Rattle.std.specs.Prelude.{codes}
use Rattle.fault_code.specs.Code.{at, plain}
use Rattle.fault_code.specs.declared.Code.{Code}
use Rattle.bpf_asm.specs.declared.fault.AsmFault.{AsmFault}
use Rattle.bpf_asm.specs.declared.fault.AsmFault.TheVariants.{BackwardJump, DoubleLabel, OutOfMemory, Syntax, TooFar, UnknownLabel}

-- with the line, from 1 on, that is at fault
abbrev pub asm_code : AsmFault → Code
asm_code (Syntax line) = at (codes "A") 1 line
asm_code (UnknownLabel line) = at (codes "A") 2 line
asm_code (DoubleLabel line) = at (codes "A") 3 line
asm_code (BackwardJump line) = at (codes "A") 4 line
asm_code (TooFar line) = at (codes "A") 5 line
asm_code OutOfMemory = plain (codes "A") 6
