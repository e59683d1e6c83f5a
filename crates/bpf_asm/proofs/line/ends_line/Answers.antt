use Rattle.std.proofs.Common.{rules}
use Rattle.bpf_asm.proofs.line.ends_line.Goals as goal

pub returns-else-b-eq10 : goal.returns-else-b-eq10
returns-else-b-eq10 c = search rules

pub returns-then-b-eq10 : goal.returns-then-b-eq10
returns-then-b-eq10 c = search rules
