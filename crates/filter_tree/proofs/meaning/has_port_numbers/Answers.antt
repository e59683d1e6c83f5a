use Rattle.std.proofs.Common.{rules}
use Rattle.filter_tree.proofs.meaning.has_port_numbers.Goals as goal

pub returns : goal.returns
returns c = search rules
