use Rattle.clap.specs.Words.{App}
use Rattle.command_line.specs.Arguments.{flood_line, packets_line, replay_line, serve_line}
use Rattle.command_line.specs.body.Half.{with_queries}
use Rattle.command_line.proofs.BuilderLemmas.{and, both}
use Rattle.command_line.proofs.builders.with_workers.Goals as goal

pub returns : goal.returns
returns c =
    let replay = c.replay_command.ensures in
    let packets = c.packets_command.ensures in
    let flood = c.flood_command.ensures in let serve = c.serve_command.ensures in
    let to_replay : App = and replay_line with_queries in
    let to_packets : App = and packets_line to_replay in
    let to_flood : App = and flood_line to_packets in
    let with_replay = c.with_command-program.ensures with_queries replay_line c.with_queries.ensures (both c.replay_command.result replay_line replay.app replay.local) in
    let with_packets = c.with_command-program-2.ensures to_replay packets_line with_replay (both c.packets_command.result packets_line packets.app packets.local) in
    let with_flood = c.with_command-program-3.ensures to_packets flood_line with_packets (both c.flood_command.result flood_line flood.app flood.local) in
    c.with_command.ensures to_flood serve_line with_flood (both c.serve_command.result serve_line serve.app serve.local)
