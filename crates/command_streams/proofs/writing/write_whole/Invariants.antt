use Rattle.std.proofs.Common.{◌≡◌, length}
use Rattle.command_line.proofs.EndingLemmas.{HasWritten}
use Rattle.command_streams.proofs.writing.write_whole.Given as goal

abbrev pub invariant-loop-rest : goal.invariant-loop-rest
invariant-loop-rest g l = HasWritten (g.W.CountedWrite.contents l.fn.out) (g.W.CountedWrite.contents l.out) l.bytes l.rest
    × (g.W.CountedWrite.failures l.out ≡ g.W.CountedWrite.failures l.fn.out)

abbrev pub decreases-loop-rest : goal.decreases-loop-rest
decreases-loop-rest g l = length l.rest
