use Rattle.std.proofs.Common.{◌≡◌, length}
use Rattle.control.specs.body.Ready.{AreOutside}
use Rattle.control.proofs.TakeLemmas.{IsTakenUpTo}
use Rattle.control.proofs.script.Script.answer_lines.Given as goal

abbrev pub invariant-loop-front : goal.invariant-loop-front
invariant-loop-front g l = IsTakenUpTo l.bytes l.left l.fn.self l.self (g.W.Output.state l.fn.writer).taken l.fn.replies (g.W.Output.state l.writer).taken l.replies
    × AreOutside l.self.switch.operator.table l.self.switch.workers.items
    × ((g.W.Output.state l.writer).failures ≡ (g.W.Output.state l.fn.writer).failures)
    × (g.W.Output.rest l.writer ≡ g.W.Output.rest l.fn.writer)

abbrev pub decreases-loop-front : goal.decreases-loop-front
decreases-loop-front g l = length l.left
