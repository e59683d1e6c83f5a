use Rattle.std.proofs.Common.{◌≡◌}
use Rattle.control.proofs.ReplayLemmas.{IsReplaying}
use Rattle.control.proofs.replaying.replay.Given as goal

abbrev pub invariant-loop-size : goal.invariant-loop-size
invariant-loop-size g l = IsReplaying (g.R.Input.state l.fn.reader) (g.R.Input.state l.reader) (g.W.Output.state l.fn.writer) (g.W.Output.state l.writer) l.script
    × (g.W.Output.rest l.writer ≡ g.W.Output.rest l.fn.writer)

abbrev pub decreases-loop-size : goal.decreases-loop-size
decreases-loop-size g l = (g.R.Input.state l.reader).left
