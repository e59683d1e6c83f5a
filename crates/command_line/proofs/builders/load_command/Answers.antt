use Rattle.std.proofs.Common.{codes}
use Rattle.clap.specs.Words.{App, new_app, with_rule}
use Rattle.command_line.specs.Arguments.{flag, named_argument, required_argument, timeout_argument}
use Rattle.command_line.proofs.builders.load_command.Goals as goal

pub returns-clause-app : goal.returns-clause-app
returns-clause-app c =
    let start : App = new_app (codes "load") in
    let made1 = c.with_argument-command.ensures.app start (named_argument (codes "control")) c.plain_command-command.ensures.app c.named_argument-control.ensures.rule c.named_argument-control.ensures.local in
    let to1 : App = with_rule start (named_argument (codes "control")) in
    let made2 = c.with_argument-command-2.ensures.app to1 timeout_argument made1 c.timeout_argument-timeout.ensures.rule c.timeout_argument-timeout.ensures.local in
    let to2 : App = with_rule to1 timeout_argument in
    let made3 = c.with_argument-command-3.ensures.app to2 (flag (codes "check")) made2 c.flag_argument-check.ensures.rule c.flag_argument-check.ensures.local in
    let to3 : App = with_rule to2 (flag (codes "check")) in
    let made4 = c.with_argument-command-4.ensures.app to3 (flag (codes "diff")) made3 c.flag_argument-diff.ensures.rule c.flag_argument-diff.ensures.local in
    let to4 : App = with_rule to3 (flag (codes "diff")) in
    c.with_argument.ensures.app to4 (required_argument (codes "FILE")) made4 c.positional_argument-file.ensures.rule c.positional_argument-file.ensures.local

pub returns-clause-local : goal.returns-clause-local
returns-clause-local c =
    let made1 = c.with_argument-command.ensures.local c.plain_command-command.ensures.local c.named_argument-control.ensures.local in
    let made2 = c.with_argument-command-2.ensures.local made1 c.timeout_argument-timeout.ensures.local in
    let made3 = c.with_argument-command-3.ensures.local made2 c.flag_argument-check.ensures.local in
    let made4 = c.with_argument-command-4.ensures.local made3 c.flag_argument-diff.ensures.local in
    c.with_argument.ensures.local made4 c.positional_argument-file.ensures.local
