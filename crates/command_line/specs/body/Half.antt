-- The program with some of its commands.
use Rattle.clap.specs.Words.{App, with_subcommand}
use Rattle.command_line.specs.Arguments.{check_line, compile_line, drain_line, explain_line, first_line, flood_line, load_line, pack_line, packets_line, replay_line, rules_line, run_line, serve_line, spread_line, tell_line, without_commands}

-- those up to `spread`
abbrev pub with_queries : App
with_queries =
    with_subcommand
    (with_subcommand
    (with_subcommand
    (with_subcommand
    (with_subcommand (with_subcommand (with_subcommand without_commands first_line.top) check_line.top) compile_line.top)
    run_line.top)
    pack_line.top)
    explain_line.top)
    spread_line.top

-- those up to `serve`
abbrev pub with_workers : App
with_workers =
    with_subcommand (with_subcommand (with_subcommand (with_subcommand with_queries replay_line.top) packets_line.top) flood_line.top) serve_line.top

-- those up to `drain`
abbrev pub with_rules : App
with_rules = with_subcommand (with_subcommand (with_subcommand (with_subcommand with_workers tell_line.top) rules_line.top) load_line.top) drain_line.top
