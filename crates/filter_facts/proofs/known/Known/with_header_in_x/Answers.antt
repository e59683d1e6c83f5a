use Rattle.std.proofs.Common.{rules}
use Rattle.filter_facts.proofs.known.Known.with_header_in_x.Goals as goal

pub returns-clause-kept : goal.returns-clause-kept
returns-clause-kept c = search rules
