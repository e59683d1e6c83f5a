use Rattle.std.proofs.Common.{◌≡◌}
use Rattle.control_client.specs.body.Unread.{left_of}
use Rattle.control_client.proofs.LinesLemmas.{Skips}
use Rattle.control_client.proofs.given_lines.read_told.Given as goal

abbrev pub invariant-loop-line : goal.invariant-loop-line
invariant-loop-line g l = Skips l.fn.read (left_of l.fn.unread (g.I.Input.state l.fn.input).coming) l.read (left_of l.unread (g.I.Input.state l.input).coming)
    × ((g.I.Input.state l.input).failures ≡ (g.I.Input.state l.fn.input).failures)
