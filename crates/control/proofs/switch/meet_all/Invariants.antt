use Rattle.control.specs.body.Ready.{MetFirst}
use Rattle.control.proofs.switch.meet_all.Given as goal

abbrev pub invariant-loop-w : goal.invariant-loop-w
invariant-loop-w l = MetFirst l.w l.fn.operator l.operator l.fn.workers l.workers
