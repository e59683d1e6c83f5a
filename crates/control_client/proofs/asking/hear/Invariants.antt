use Rattle.std.proofs.Common.{◌≡◌, List, length}
use Rattle.control_client.specs.Wire.{Event}
use Rattle.control_client.specs.body.Asking.{Passes}
use Rattle.control_client.proofs.asking.hear.Given as goal

abbrev pub invariant-loop-passed : goal.invariant-loop-passed
invariant-loop-passed g l = (passed : List Event) × Passes l.switch passed (g.D.Wire.log l.fn.wire) (g.D.Wire.log l.wire) × (length passed ≡ l._passed)
