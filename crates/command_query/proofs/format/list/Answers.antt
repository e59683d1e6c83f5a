use Rattle.std.proofs.Common.{rules}
use Rattle.command_query.proofs.format.list.Goals as goal

pub returns-in-Assembly : goal.returns-in-Assembly
returns-in-Assembly c = search rules

pub returns-in-Dd : goal.returns-in-Dd
returns-in-Dd c = search rules

pub returns-in-Ddd : goal.returns-in-Ddd
returns-in-Ddd c = search rules

pub returns-in-Hex : goal.returns-in-Hex
returns-in-Hex c = search rules
