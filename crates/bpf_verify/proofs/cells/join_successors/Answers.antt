use Rattle.std.proofs.Common.{rules}
use Rattle.bpf_verify.proofs.cells.join_successors.Goals as goal

pub returns-in-ReturnConstant : goal.returns-in-ReturnConstant
returns-in-ReturnConstant c = search rules

pub returns-in-ReturnA : goal.returns-in-ReturnA
returns-in-ReturnA c = search rules

pub returns-in-Jump : goal.returns-in-Jump
returns-in-Jump c = search rules

pub returns-in-JumpIf : goal.returns-in-JumpIf
returns-in-JumpIf c = search rules

pub returns-in-Store : goal.returns-in-Store
returns-in-Store c = search rules

pub returns-in-StoreX : goal.returns-in-StoreX
returns-in-StoreX c = search rules

pub returns-in_default : goal.returns-in_default
returns-in_default c = search rules
