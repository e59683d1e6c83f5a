use Rattle.std.proofs.Common.{rules}
use Rattle.bpf_verify.proofs.jumps.check_targets.Goals as goal

pub returns-then-pc-offsets-2-clause-fault : goal.returns-then-pc-offsets-2-clause-fault
returns-then-pc-offsets-2-clause-fault c = search rules

pub returns-then-pc-offsets-2-clause-fault_place : goal.returns-then-pc-offsets-2-clause-fault_place
returns-then-pc-offsets-2-clause-fault_place c = search rules

pub returns-else-pc-offsets-clause-fault : goal.returns-else-pc-offsets-clause-fault
returns-else-pc-offsets-clause-fault c = search rules

pub returns-else-pc-offsets-clause-fault_place : goal.returns-else-pc-offsets-clause-fault_place
returns-else-pc-offsets-clause-fault_place c = search rules
