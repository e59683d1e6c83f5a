use Rattle.command_line.proofs.EndingLemmas.{HasWritten}
use Rattle.command_line.proofs.ending.write_whole.Given as goal

abbrev pub invariant-loop-turn : goal.invariant-loop-turn
invariant-loop-turn g l = HasWritten (g.W.Write.contents l.initial.out) (g.W.Write.contents l.out) l.bytes l.rest
