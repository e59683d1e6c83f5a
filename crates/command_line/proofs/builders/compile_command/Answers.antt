use Rattle.std.proofs.Common.{codes}
use Rattle.clap.specs.Words.{App, new_app, with_rule}
use Rattle.command_line.specs.Arguments.{named_argument, required_argument}
use Rattle.command_line.proofs.builders.compile_command.Goals as goal

pub returns-clause-app : goal.returns-clause-app
returns-clause-app c =
    let start : App = new_app (codes "compile") in
    let made1 = c.with_argument-command.ensures.app start (required_argument (codes "EXPR")) c.plain_command-command.ensures.app c.positional_argument-expression.ensures.rule c.positional_argument-expression.ensures.local in
    let to1 : App = with_rule start (required_argument (codes "EXPR")) in
    c.with_argument.ensures.app to1 (named_argument (codes "format")) made1 c.named_argument-format.ensures.rule c.named_argument-format.ensures.local

pub returns-clause-local : goal.returns-clause-local
returns-clause-local c =
    let made1 = c.with_argument-command.ensures.local c.plain_command-command.ensures.local c.positional_argument-expression.ensures.local in
    c.with_argument.ensures.local made1 c.named_argument-format.ensures.local
