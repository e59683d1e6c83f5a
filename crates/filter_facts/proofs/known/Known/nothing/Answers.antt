use Rattle.std.proofs.Common.{rules}
use Rattle.filter_facts.proofs.known.Known.nothing.Goals as goal

pub returns : goal.returns
returns c = search rules
