use Rattle.std.proofs.Common.{codes}
use Rattle.clap.specs.Words.{App, new_app, with_rule}
use Rattle.command_line.specs.Arguments.{required_named_argument, timeout_argument}
use Rattle.command_line.proofs.builders.rules_command.Goals as goal

pub returns-clause-app : goal.returns-clause-app
returns-clause-app c =
    let start : App = new_app (codes "rules") in
    let made1 = c.with_argument-command.ensures.app start (required_named_argument (codes "control")) c.plain_command-command.ensures.app c.value_argument-control.ensures.rule c.value_argument-control.ensures.local in
    let to1 : App = with_rule start (required_named_argument (codes "control")) in
    c.with_argument.ensures.app to1 timeout_argument made1 c.timeout_argument-timeout.ensures.rule c.timeout_argument-timeout.ensures.local

pub returns-clause-local : goal.returns-clause-local
returns-clause-local c =
    let made1 = c.with_argument-command.ensures.local c.plain_command-command.ensures.local c.value_argument-control.ensures.local in
    c.with_argument.ensures.local made1 c.timeout_argument-timeout.ensures.local
