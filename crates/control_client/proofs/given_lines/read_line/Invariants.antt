use Rattle.std.proofs.Common.{◌≡◌}
use Rattle.std.specs.Io.KnownBytes.{Consumes}
use Rattle.ipv4_fields.specs.Cut.{Lacks}
use Rattle.control_client.specs.body.Unread.{left_of}
use Rattle.control_client.proofs.given_lines.read_line.Given as goal

abbrev pub invariant-loop-ended : goal.invariant-loop-ended
invariant-loop-ended g l = Lacks 10 l.line.items
    × Consumes (left_of l.fn.unread (g.I.Input.state l.fn.input).coming) (left_of l.unread (g.I.Input.state l.input).coming) l.line.items
    × ((g.I.Input.state l.input).failures ≡ (g.I.Input.state l.fn.input).failures)

abbrev pub decreases-loop-ended : goal.decreases-loop-ended
decreases-loop-ended g l = (g.I.Input.state l.input).left
