use Rattle.std.proofs.Common.{rules}
use Rattle.bpf_verify.proofs.operands.check_shift.Goals as goal

pub returns-then-k-lt-BITS-clause-fault : goal.returns-then-k-lt-BITS-clause-fault
returns-then-k-lt-BITS-clause-fault c = search rules

pub returns-then-k-lt-BITS-clause-fault_place : goal.returns-then-k-lt-BITS-clause-fault_place
returns-then-k-lt-BITS-clause-fault_place c = search rules

pub returns-else-k-lt-BITS-clause-fault : goal.returns-else-k-lt-BITS-clause-fault
returns-else-k-lt-BITS-clause-fault c = search rules

pub returns-else-k-lt-BITS-clause-fault_place : goal.returns-else-k-lt-BITS-clause-fault_place
returns-else-k-lt-BITS-clause-fault_place c = search rules
