use Rattle.std.proofs.Common.{rules}
use Rattle.bpf_formats.proofs.item.ends_item.Goals as goal

pub returns-else-b-eq10 : goal.returns-else-b-eq10
returns-else-b-eq10 c = search rules

pub returns-then-b-eq10 : goal.returns-then-b-eq10
returns-then-b-eq10 c = search rules
