use Rattle.std.specs.Io.KnownBytes.{Consumes}
use Rattle.control_client.proofs.stream_lines.receive_line.Given as goal

abbrev pub invariant-loop-turn : goal.invariant-loop-turn
invariant-loop-turn g l = Consumes (g.S.Read.remaining l.fn.from) (g.S.Read.remaining l.from) l.held.items
