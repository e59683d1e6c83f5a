use Rattle.std.proofs.Common.{codes}
use Rattle.clap.specs.Words.{App, new_app, with_rule}
use Rattle.command_line.specs.Arguments.{required_named_argument, some_number_of}
use Rattle.command_line.proofs.builders.spread_command.Goals as goal

pub returns-clause-app : goal.returns-clause-app
returns-clause-app c =
    let start : App = new_app (codes "spread") in
    let made1 = c.with_argument-command.ensures.app start (required_named_argument (codes "buckets")) c.plain_command-command.ensures.app c.value_argument-buckets.ensures.rule c.value_argument-buckets.ensures.local in
    let to1 : App = with_rule start (required_named_argument (codes "buckets")) in
    let made2 = c.with_argument-command-2.ensures.app to1 (required_named_argument (codes "by")) made1 c.value_argument-by.ensures.rule c.value_argument-by.ensures.local in
    let to2 : App = with_rule to1 (required_named_argument (codes "by")) in
    c.with_argument.ensures.app to2 (some_number_of (codes "ID=WEIGHT")) made2 c.words_argument-shares.ensures.rule c.words_argument-shares.ensures.local

pub returns-clause-local : goal.returns-clause-local
returns-clause-local c =
    let made1 = c.with_argument-command.ensures.local c.plain_command-command.ensures.local c.value_argument-buckets.ensures.local in
    let made2 = c.with_argument-command-2.ensures.local made1 c.value_argument-by.ensures.local in
    c.with_argument.ensures.local made2 c.words_argument-shares.ensures.local
