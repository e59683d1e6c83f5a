use Rattle.std.proofs.Common.{rules}
use Rattle.bpf_verify.proofs.jumps.check_target.Goals as goal

pub returns-then-pc-k-clause-fault : goal.returns-then-pc-k-clause-fault
returns-then-pc-k-clause-fault c = search rules

pub returns-then-pc-k-clause-fault_place : goal.returns-then-pc-k-clause-fault_place
returns-then-pc-k-clause-fault_place c = search rules

pub returns-else-pc-k-clause-fault : goal.returns-else-pc-k-clause-fault
returns-else-pc-k-clause-fault c = search rules

pub returns-else-pc-k-clause-fault_place : goal.returns-else-pc-k-clause-fault_place
returns-else-pc-k-clause-fault_place c = search rules
