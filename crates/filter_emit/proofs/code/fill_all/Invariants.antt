use Rattle.std.proofs.Common.{length}
use Rattle.filter_emit.proofs.FillLemmas.{IsFilling}
use Rattle.filter_emit.proofs.code.fill_all.Given as goal

abbrev pub invariant-loop-fixup : goal.invariant-loop-fixup
invariant-loop-fixup g l = IsFilling l.fixups l.fixup-index (length l.fn.words.items) l.fn.words.items l.words.items
