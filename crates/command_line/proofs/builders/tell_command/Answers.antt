use Rattle.std.proofs.Common.{codes}
use Rattle.clap.specs.Words.{App, new_app, with_rule}
use Rattle.command_line.specs.Arguments.{any_number_of, flag, required_named_argument, timeout_argument}
use Rattle.command_line.proofs.builders.tell_command.Goals as goal

pub returns-clause-app : goal.returns-clause-app
returns-clause-app c =
    let start : App = new_app (codes "tell") in
    let made1 = c.with_argument-command.ensures.app start (required_named_argument (codes "control")) c.plain_command-command.ensures.app c.value_argument-control.ensures.rule c.value_argument-control.ensures.local in
    let to1 : App = with_rule start (required_named_argument (codes "control")) in
    let made2 = c.with_argument-command-2.ensures.app to1 timeout_argument made1 c.timeout_argument-timeout.ensures.rule c.timeout_argument-timeout.ensures.local in
    let to2 : App = with_rule to1 timeout_argument in
    let made3 = c.with_argument-command-3.ensures.app to2 (flag (codes "all")) made2 c.flag_argument-all.ensures.rule c.flag_argument-all.ensures.local in
    let to3 : App = with_rule to2 (flag (codes "all")) in
    c.with_argument.ensures.app to3 (any_number_of (codes "LINE")) made3 c.lines_argument.ensures.rule c.lines_argument.ensures.local

pub returns-clause-local : goal.returns-clause-local
returns-clause-local c =
    let made1 = c.with_argument-command.ensures.local c.plain_command-command.ensures.local c.value_argument-control.ensures.local in
    let made2 = c.with_argument-command-2.ensures.local made1 c.timeout_argument-timeout.ensures.local in
    let made3 = c.with_argument-command-3.ensures.local made2 c.flag_argument-all.ensures.local in
    c.with_argument.ensures.local made3 c.lines_argument.ensures.local
