use Rattle.std.proofs.Common.{rules}
use Rattle.command_query.proofs.queries.read_packet.Goals as goal

pub returns-clause-refused : goal.returns-clause-refused
returns-clause-refused c = search rules

pub returns-clause-spelt : goal.returns-clause-spelt
returns-clause-spelt c = search rules
