use Rattle.std.proofs.Common.{codes}
use Rattle.clap.specs.Words.{new_app}
use Rattle.command_line.specs.Arguments.{unwrap_argument}
use Rattle.command_line.proofs.builders.packets_command.Goals as goal

pub returns-clause-app : goal.returns-clause-app
returns-clause-app c =
    c.with_argument.ensures.app (new_app (codes "packets")) unwrap_argument c.plain_command-command.ensures.app c.number_argument-unwrap.ensures.rule c.number_argument-unwrap.ensures.local

pub returns-clause-local : goal.returns-clause-local
returns-clause-local c = c.with_argument.ensures.local c.plain_command-command.ensures.local c.number_argument-unwrap.ensures.local
