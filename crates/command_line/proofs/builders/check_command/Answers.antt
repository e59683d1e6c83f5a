use Rattle.std.proofs.Common.{codes}
use Rattle.clap.specs.Words.{new_app}
use Rattle.command_line.specs.Arguments.{named_argument}
use Rattle.command_line.proofs.builders.check_command.Goals as goal

pub returns-clause-app : goal.returns-clause-app
returns-clause-app c =
    c.with_argument.ensures.app (new_app (codes "check")) (named_argument (codes "format")) c.plain_command-command.ensures.app c.named_argument-format.ensures.rule c.named_argument-format.ensures.local

pub returns-clause-local : goal.returns-clause-local
returns-clause-local c = c.with_argument.ensures.local c.plain_command-command.ensures.local c.named_argument-format.ensures.local
