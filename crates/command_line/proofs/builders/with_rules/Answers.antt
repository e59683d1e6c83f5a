use Rattle.clap.specs.Words.{App}
use Rattle.command_line.specs.Arguments.{drain_line, load_line, rules_line, tell_line}
use Rattle.command_line.specs.body.Half.{with_workers}
use Rattle.command_line.proofs.BuilderLemmas.{and, both}
use Rattle.command_line.proofs.builders.with_rules.Goals as goal

pub returns : goal.returns
returns c =
    let tell = c.tell_command.ensures in let rules = c.rules_command.ensures in let load = c.load_command.ensures in
    let drain = c.drain_command.ensures in
    let to_tell : App = and tell_line with_workers in
    let to_rules : App = and rules_line to_tell in
    let to_load : App = and load_line to_rules in
    let with_tell = c.with_command-program.ensures with_workers tell_line c.with_workers.ensures (both c.tell_command.result tell_line tell.app tell.local) in
    let with_rules = c.with_command-program-2.ensures to_tell rules_line with_tell (both c.rules_command.result rules_line rules.app rules.local) in
    let with_load = c.with_command-program-3.ensures to_rules load_line with_rules (both c.load_command.result load_line load.app load.local) in
    c.with_command.ensures to_load drain_line with_load (both c.drain_command.result drain_line drain.app drain.local)
