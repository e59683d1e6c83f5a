use Rattle.std.proofs.Common.{rules}
use Rattle.read_section.proofs.section.Section.abandon.Goals as goal

pub returns : goal.returns
returns c = search rules
