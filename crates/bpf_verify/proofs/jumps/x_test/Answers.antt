use Rattle.std.proofs.Common.{refl}
use Rattle.bpf_insn.specs.Table.{table, uses_of}
use Rattle.bpf_verify.proofs.jumps.x_test.Goals as goal

pub returns-in-29 : goal.returns-in-29
unfolding uses_of table
returns-in-29 c = rw c.in-29.is refl

pub returns-in-45 : goal.returns-in-45
unfolding uses_of table
returns-in-45 c = rw c.in-45.is refl

pub returns-in-61 : goal.returns-in-61
unfolding uses_of table
returns-in-61 c = rw c.in-61.is refl

pub returns-in-77 : goal.returns-in-77
unfolding uses_of table
returns-in-77 c = rw c.in-77.is refl
