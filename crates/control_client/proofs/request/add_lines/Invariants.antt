use Rattle.std.proofs.Common.{◌≡◌}
use Rattle.control_client.specs.body.Collecting.{AddsSome}
use Rattle.control_client.proofs.request.add_lines.Given as goal

abbrev pub invariant-loop-line : goal.invariant-loop-line
invariant-loop-line g l = AddsSome l._line (g.L.Lines.coming l.fn.lines) (g.L.Lines.coming l.lines)
    (record { text = l.fn.request.items; numbers = l.fn.numbers.items }) (record { text = l.request.items; numbers = l.numbers.items })
    × (g.L.Lines.failures l.lines ≡ g.L.Lines.failures l.fn.lines)
