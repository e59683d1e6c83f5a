use Rattle.std.proofs.Common.{◌≡◌, length}
use Rattle.control.proofs.WritingLemmas.{IsWrittenUpTo}
use Rattle.control.proofs.writing.write_all.Given as goal

abbrev pub invariant-loop-left : goal.invariant-loop-left
invariant-loop-left g l = IsWrittenUpTo (g.W.Output.state l.fn.writer).taken (g.W.Output.state l.writer).taken l.bytes l.left
    × ((g.W.Output.state l.writer).failures ≡ (g.W.Output.state l.fn.writer).failures)
    × (g.W.Output.rest l.writer ≡ g.W.Output.rest l.fn.writer)

abbrev pub decreases-loop-left : goal.decreases-loop-left
decreases-loop-left g l = length l.left
