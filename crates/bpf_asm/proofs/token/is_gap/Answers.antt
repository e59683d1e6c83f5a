use Rattle.std.proofs.Common.{rules}
use Rattle.bpf_asm.proofs.token.is_gap.Goals as goal

pub returns-else-b-eq32 : goal.returns-else-b-eq32
returns-else-b-eq32 c = search rules

pub returns-then-b-eq32 : goal.returns-then-b-eq32
returns-then-b-eq32 c = search rules
