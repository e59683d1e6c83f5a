use Rattle.clap.specs.Words.{App}
use Rattle.command_line.specs.Arguments.{check_line, compile_line, explain_line, first_line, pack_line, run_line, spread_line, without_commands}
use Rattle.command_line.proofs.BuilderLemmas.{and, both}
use Rattle.command_line.proofs.builders.with_queries.Goals as goal

pub returns : goal.returns
returns c =
    let first = c.plain_command-first.ensures in let check = c.check_command.ensures in let compile = c.compile_command.ensures in
    let run = c.run_command.ensures in let pack = c.pack_command.ensures in let explain = c.explain_command.ensures in let spread = c.spread_command.ensures in
    let to_first : App = and first_line without_commands in
    let to_check : App = and check_line to_first in
    let to_compile : App = and compile_line to_check in
    let to_run : App = and run_line to_compile in
    let to_pack : App = and pack_line to_run in
    let to_explain : App = and explain_line to_pack in
    let with_first = c.with_command-program.ensures without_commands first_line c.without_commands-program.ensures (first.app, first.local) in
    let with_check = c.with_command-program-2.ensures to_first check_line with_first (both c.check_command.result check_line check.app check.local) in
    let with_compile = c.with_command-program-3.ensures to_check compile_line with_check (both c.compile_command.result compile_line compile.app compile.local) in
    let with_run = c.with_command-program-4.ensures to_compile run_line with_compile (both c.run_command.result run_line run.app run.local) in
    let with_pack = c.with_command-program-5.ensures to_run pack_line with_run (both c.pack_command.result pack_line pack.app pack.local) in
    let with_explain = c.with_command-program-6.ensures to_pack explain_line with_pack (both c.explain_command.result explain_line explain.app explain.local) in
    c.with_command.ensures to_explain spread_line with_explain (both c.spread_command.result spread_line spread.app spread.local)
