use Rattle.std.proofs.Common.{refl}
use Rattle.bpf_insn.specs.Table.{table, uses_of}
use Rattle.bpf_verify.proofs.jumps.constant_test.Goals as goal

pub returns-in-21 : goal.returns-in-21
unfolding uses_of table
returns-in-21 c = rw c.in-21.is refl

pub returns-in-37 : goal.returns-in-37
unfolding uses_of table
returns-in-37 c = rw c.in-37.is refl

pub returns-in-53 : goal.returns-in-53
unfolding uses_of table
returns-in-53 c = rw c.in-53.is refl

pub returns-in-69 : goal.returns-in-69
unfolding uses_of table
returns-in-69 c = rw c.in-69.is refl
