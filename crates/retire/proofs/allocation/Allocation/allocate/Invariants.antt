use Rattle.retire.specs.body.Allocation.{IsAllocation, AllocatesFree}
use Rattle.retire.proofs.allocation.Allocation.allocate.Given as goal

abbrev pub invariant-loop-index : goal.invariant-loop-index
invariant-loop-index g l = IsAllocation l.operator.view l.self × AllocatesFree l.operator.view l.fn.self l.self l._index
