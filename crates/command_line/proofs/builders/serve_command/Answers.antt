use Rattle.std.proofs.Common.{codes}
use Rattle.clap.specs.Words.{App, new_app, with_rule}
use Rattle.command_line.specs.Arguments.{flag, named_argument, receive_buffer_argument, required_named_argument, workers_argument}
use Rattle.command_line.proofs.builders.serve_command.Goals as goal

pub returns-clause-app : goal.returns-clause-app
returns-clause-app c =
    let start : App = new_app (codes "serve") in
    let made1 = c.with_argument-command.ensures.app start (required_named_argument (codes "front")) c.plain_command-command.ensures.app c.value_argument-front.ensures.rule c.value_argument-front.ensures.local in
    let to1 : App = with_rule start (required_named_argument (codes "front")) in
    let made2 = c.with_argument-command-2.ensures.app to1 (required_named_argument (codes "control")) made1 c.value_argument-control.ensures.rule c.value_argument-control.ensures.local in
    let to2 : App = with_rule to1 (required_named_argument (codes "control")) in
    let made3 = c.with_argument-command-3.ensures.app to2 workers_argument made2 c.workers_argument.ensures.rule c.workers_argument.ensures.local in
    let to3 : App = with_rule to2 workers_argument in
    let made4 = c.with_argument-command-4.ensures.app to3 (named_argument (codes "rules")) made3 c.named_argument-rules.ensures.rule c.named_argument-rules.ensures.local in
    let to4 : App = with_rule to3 (named_argument (codes "rules")) in
    let made5 = c.with_argument-command-5.ensures.app to4 (flag (codes "log")) made4 c.flag_argument-log.ensures.rule c.flag_argument-log.ensures.local in
    let to5 : App = with_rule to4 (flag (codes "log")) in
    let made6 = c.with_argument-command-6.ensures.app to5 (named_argument (codes "receive")) made5 c.named_argument-receive.ensures.rule c.named_argument-receive.ensures.local in
    let to6 : App = with_rule to5 (named_argument (codes "receive")) in
    c.with_argument.ensures.app to6 receive_buffer_argument made6 c.number_argument-buffer.ensures.rule c.number_argument-buffer.ensures.local

pub returns-clause-local : goal.returns-clause-local
returns-clause-local c =
    let made1 = c.with_argument-command.ensures.local c.plain_command-command.ensures.local c.value_argument-front.ensures.local in
    let made2 = c.with_argument-command-2.ensures.local made1 c.value_argument-control.ensures.local in
    let made3 = c.with_argument-command-3.ensures.local made2 c.workers_argument.ensures.local in
    let made4 = c.with_argument-command-4.ensures.local made3 c.named_argument-rules.ensures.local in
    let made5 = c.with_argument-command-5.ensures.local made4 c.flag_argument-log.ensures.local in
    let made6 = c.with_argument-command-6.ensures.local made5 c.named_argument-receive.ensures.local in
    c.with_argument.ensures.local made6 c.number_argument-buffer.ensures.local
