use Rattle.std.proofs.Common.{rules}
use Rattle.command_line.proofs.found.subcommand_of.Goals as goal

pub returns-in-first : goal.returns-in-first
returns-in-first c = search rules

pub returns-in-check : goal.returns-in-check
returns-in-check c = search rules

pub returns-in-compile : goal.returns-in-compile
returns-in-compile c = search rules

pub returns-in-run : goal.returns-in-run
returns-in-run c = search rules

pub returns-in-pack : goal.returns-in-pack
returns-in-pack c = search rules

pub returns-in-explain : goal.returns-in-explain
returns-in-explain c = search rules

pub returns-in-spread : goal.returns-in-spread
returns-in-spread c = search rules

pub returns-in-replay : goal.returns-in-replay
returns-in-replay c = search rules

pub returns-in-packets : goal.returns-in-packets
returns-in-packets c = search rules

pub returns-in-flood : goal.returns-in-flood
returns-in-flood c = search rules

pub returns-in-serve : goal.returns-in-serve
returns-in-serve c = search rules

pub returns-in-tell : goal.returns-in-tell
returns-in-tell c = search rules

pub returns-in-rules : goal.returns-in-rules
returns-in-rules c = search rules

pub returns-in-load : goal.returns-in-load
returns-in-load c = search rules

pub returns-in-drain : goal.returns-in-drain
returns-in-drain c = search rules

pub returns-in-metrics : goal.returns-in-metrics
returns-in-metrics c = search rules

pub returns-in-top : goal.returns-in-top
returns-in-top c = search rules
