use Rattle.std.proofs.Common.{rules}
use Rattle.read_section.proofs.operator.form_end.Goals as goal

pub returns : goal.returns
returns c = search rules
