use Rattle.std.proofs.Common.{codes}
use Rattle.clap.specs.Words.{App, new_app, with_rule}
use Rattle.command_line.specs.Arguments.{flag}
use Rattle.command_line.proofs.builders.replay_command.Goals as goal

pub returns-clause-app : goal.returns-clause-app
returns-clause-app c =
    let start : App = new_app (codes "replay") in
    let made1 = c.with_argument-command.ensures.app start (flag (codes "summary")) c.plain_command-command.ensures.app c.flag_argument-summary.ensures.rule c.flag_argument-summary.ensures.local in
    let to1 : App = with_rule start (flag (codes "summary")) in
    c.with_argument.ensures.app to1 (flag (codes "quiet")) made1 c.flag_argument-quiet.ensures.rule c.flag_argument-quiet.ensures.local

pub returns-clause-local : goal.returns-clause-local
returns-clause-local c =
    let made1 = c.with_argument-command.ensures.local c.plain_command-command.ensures.local c.flag_argument-summary.ensures.local in
    c.with_argument.ensures.local made1 c.flag_argument-quiet.ensures.local
