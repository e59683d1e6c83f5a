use Rattle.std.proofs.Common.{rules}
use Rattle.bpf_asm.proofs.printing.print_insn.Goals as goal

pub returns-in-CopyFromX : goal.returns-in-CopyFromX
returns-in-CopyFromX g c = search rules

pub returns-in-CopyToX : goal.returns-in-CopyToX
returns-in-CopyToX g c = search rules

pub returns-in-Jump : goal.returns-in-Jump
returns-in-Jump g c = search rules

pub returns-in-LoadCell : goal.returns-in-LoadCell
returns-in-LoadCell g c = search rules

pub returns-in-LoadConstant : goal.returns-in-LoadConstant
returns-in-LoadConstant g c = search rules

pub returns-in-LoadLength : goal.returns-in-LoadLength
returns-in-LoadLength g c = search rules

pub returns-in-LoadXCell : goal.returns-in-LoadXCell
returns-in-LoadXCell g c = search rules

pub returns-in-LoadXConstant : goal.returns-in-LoadXConstant
returns-in-LoadXConstant g c = search rules

pub returns-in-LoadXHeader : goal.returns-in-LoadXHeader
returns-in-LoadXHeader g c = search rules

pub returns-in-LoadXLength : goal.returns-in-LoadXLength
returns-in-LoadXLength g c = search rules

pub returns-in-Negate : goal.returns-in-Negate
returns-in-Negate g c = search rules

pub returns-in-ReturnA : goal.returns-in-ReturnA
returns-in-ReturnA g c = search rules

pub returns-in-ReturnConstant : goal.returns-in-ReturnConstant
returns-in-ReturnConstant g c = search rules

pub returns-in-Store : goal.returns-in-Store
returns-in-Store g c = search rules

pub returns-in-StoreX : goal.returns-in-StoreX
returns-in-StoreX g c = search rules

pub returns-in-LoadAbsolute : goal.returns-in-LoadAbsolute
returns-in-LoadAbsolute g c = search rules

pub returns-in-LoadIndexed : goal.returns-in-LoadIndexed
returns-in-LoadIndexed g c = search rules

pub returns-in-Alu : goal.returns-in-Alu
returns-in-Alu g c = search rules

pub returns-in-JumpIf : goal.returns-in-JumpIf
returns-in-JumpIf g c = search rules
