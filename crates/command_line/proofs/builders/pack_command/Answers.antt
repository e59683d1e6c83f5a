use Rattle.std.proofs.Common.{codes}
use Rattle.clap.specs.Words.{App, new_app, with_rule}
use Rattle.command_line.specs.Arguments.{named_argument, required_named_argument}
use Rattle.command_line.proofs.builders.pack_command.Goals as goal

pub returns-clause-app : goal.returns-clause-app
returns-clause-app c =
    let start : App = new_app (codes "pack") in
    let made1 = c.with_argument-command.ensures.app start (required_named_argument (codes "from")) c.plain_command-command.ensures.app c.value_argument-from.ensures.rule c.value_argument-from.ensures.local in
    let to1 : App = with_rule start (required_named_argument (codes "from")) in
    let made2 = c.with_argument-command-2.ensures.app to1 (required_named_argument (codes "to")) made1 c.value_argument-to.ensures.rule c.value_argument-to.ensures.local in
    let to2 : App = with_rule to1 (required_named_argument (codes "to")) in
    let made3 = c.with_argument-command-3.ensures.app to2 (named_argument (codes "payload")) made2 c.named_argument-payload.ensures.rule c.named_argument-payload.ensures.local in
    let to3 : App = with_rule to2 (named_argument (codes "payload")) in
    c.with_argument.ensures.app to3 (named_argument (codes "text")) made3 c.named_argument-text.ensures.rule c.named_argument-text.ensures.local

pub returns-clause-local : goal.returns-clause-local
returns-clause-local c =
    let made1 = c.with_argument-command.ensures.local c.plain_command-command.ensures.local c.value_argument-from.ensures.local in
    let made2 = c.with_argument-command-2.ensures.local made1 c.value_argument-to.ensures.local in
    let made3 = c.with_argument-command-3.ensures.local made2 c.named_argument-payload.ensures.local in
    c.with_argument.ensures.local made3 c.named_argument-text.ensures.local
