use Rattle.std.proofs.Common.{◌≡◌}
use Rattle.command_operating.proofs.MeasuringLemmas.{AreShown}
use Rattle.command_operating.proofs.watching.print_screens.Given as goal

abbrev pub invariant-loop-screen : goal.invariant-loop-screen
invariant-loop-screen g l =
    AreShown l.watching.clears l.fn.client (g.W.CountedWrite.contents l.fn.out) l._screen l.client (g.W.CountedWrite.contents l.out) l.earlier.counters
    × (g.W.CountedWrite.failures l.out ≡ g.W.CountedWrite.failures l.fn.out)
