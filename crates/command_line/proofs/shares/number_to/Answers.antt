use Rattle.std.proofs.Common.{rules}
use Rattle.command_line.proofs.ShareLemmas.{number_is, number_none}
use Rattle.command_line.proofs.shares.number_to.Goals as goal

pub returns-in-Ok-clause-number : goal.returns-in-Ok-clause-number
returns-in-Ok-clause-number c = search (rules, number_is)

pub returns-in_default-2-clause-number : goal.returns-in_default-2-clause-number
returns-in_default-2-clause-number c = search (rules, number_none)
