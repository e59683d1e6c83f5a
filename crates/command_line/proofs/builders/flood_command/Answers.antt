use Rattle.std.proofs.Common.{codes}
use Rattle.clap.specs.Words.{App, new_app, with_rule}
use Rattle.command_line.specs.Arguments.{datagrams_argument, workers_argument}
use Rattle.command_line.proofs.builders.flood_command.Goals as goal

pub returns-clause-app : goal.returns-clause-app
returns-clause-app c =
    let start : App = new_app (codes "flood") in
    let made1 = c.with_argument-command.ensures.app start workers_argument c.plain_command-command.ensures.app c.workers_argument-workers.ensures.rule c.workers_argument-workers.ensures.local in
    let to1 : App = with_rule start workers_argument in
    c.with_argument.ensures.app to1 datagrams_argument made1 c.number_argument-datagrams.ensures.rule c.number_argument-datagrams.ensures.local

pub returns-clause-local : goal.returns-clause-local
returns-clause-local c =
    let made1 = c.with_argument-command.ensures.local c.plain_command-command.ensures.local c.workers_argument-workers.ensures.local in
    c.with_argument.ensures.local made1 c.number_argument-datagrams.ensures.local
