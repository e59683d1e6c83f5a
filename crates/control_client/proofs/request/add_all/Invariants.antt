use Rattle.std.proofs.Common.{◌≡◌}
use Rattle.control_client.specs.body.Collecting.{AddsSome}
use Rattle.control_client.proofs.request.add_all.Given as goal

abbrev pub invariant-loop-count : goal.invariant-loop-count
invariant-loop-count g l = AddsSome l.count (g.L.Lines.coming l.fn.lines) (g.L.Lines.coming l.lines)
    (record { text = l.fn.text.items; numbers = l.fn.numbers.items }) (record { text = l.text.items; numbers = l.numbers.items })
    × (g.L.Lines.failures l.lines ≡ g.L.Lines.failures l.fn.lines)
