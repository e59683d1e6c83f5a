use Rattle.std.proofs.Common.{rules}
use Rattle.bpf_asm.proofs.target.distance.Goals as goal

pub returns-else-place-at : goal.returns-else-place-at
returns-else-place-at c = search rules

pub returns-in-None : goal.returns-in-None
returns-in-None c = search rules

pub returns-then-place-at : goal.returns-then-place-at
returns-then-place-at c = search rules
