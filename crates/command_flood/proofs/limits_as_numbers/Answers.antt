use Rattle.std.proofs.Common.{rules}
use Rattle.command_flood.proofs.limits_as_numbers.Goals as goal

pub returns-clause-batch : goal.returns-clause-batch
returns-clause-batch c = search rules

pub returns-clause-datagrams : goal.returns-clause-datagrams
returns-clause-datagrams c = search rules

pub returns-clause-publications : goal.returns-clause-publications
returns-clause-publications c = search rules

pub returns-clause-unasked : goal.returns-clause-unasked
returns-clause-unasked c = search rules

pub returns-clause-room : goal.returns-clause-room
returns-clause-room c = search rules
