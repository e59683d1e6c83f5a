use Rattle.std.proofs.Common.{arith, rules}
use Rattle.std.proofs.lemmas.Grind.{common_steps}
use Rattle.bpf_machine.proofs.packet.number.Goals as goal

pub returns-then-place-len : goal.returns-then-place-len
returns-then-place-len c = grind (arith, common_steps)

pub returns-else-place-len : goal.returns-else-place-len
returns-else-place-len c = search rules

pub returns-then-place-len-2 : goal.returns-then-place-len-2
returns-then-place-len-2 c = grind (arith, common_steps)

pub returns-else-place-len-2 : goal.returns-else-place-len-2
returns-else-place-len-2 c = search rules

pub returns-then-place-len-3 : goal.returns-then-place-len-3
returns-then-place-len-3 c = grind (arith, common_steps)

pub returns-else-place-len-3 : goal.returns-else-place-len-3
returns-else-place-len-3 c = search rules
