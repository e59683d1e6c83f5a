use Rattle.std.proofs.Common.{◌≡◌}
use Rattle.std.specs.Io.KnownBytes.{Consumes}
use Rattle.command_streams.proofs.reading.read_all.Given as goal

abbrev pub invariant-loop-size : goal.invariant-loop-size
invariant-loop-size g l = Consumes (g.R.Input.state l.fn.input).coming (g.R.Input.state l.input).coming l.bytes.items
    × ((g.R.Input.state l.input).failures ≡ (g.R.Input.state l.fn.input).failures)

abbrev pub decreases-loop-size : goal.decreases-loop-size
decreases-loop-size g l = (g.R.Input.state l.input).left
