use Rattle.std.proofs.Common.{true}
use Rattle.counter_text.specs.Screen.{screen_text}
use Rattle.command_operating.specs.Measured.{clear_text}
use Rattle.command_operating.proofs.PrintingLemmas.{begins_first, begins_then}
use Rattle.command_operating.proofs.watching.print_screen.Goals as goal
use Rattle.command_operating.proofs.watching.print_screen.Goals.{else-clears, then-clears+in_ok-write_whole}

pub returns-in_err-write_whole-clause-beginning : goal.returns-in_err-write_whole-clause-beginning
returns-in_err-write_whole-clause-beginning g c =
    rw c.if-clears.true
    (begins_first (g.W.CountedWrite.contents c.args.out.now) (g.W.CountedWrite.contents c.write_whole.new.out) (clear_text true)
    (screen_text c.args.readings.0.now c.args.readings.1.now c.args.millis) c.write_whole.ensures.beginning)

pub returns-clause-beginning : goal.returns-clause-beginning
returns-clause-beginning g c =
    let start = g.W.CountedWrite.contents c.args.out.now in let end = g.W.CountedWrite.contents c.write_through.new.out in
    let text = screen_text c.args.readings.0.now c.args.readings.1.now c.args.millis in
    let printed = rw (c.as_bytes.ensures.value, c.in_ok-text.ensures) at c.write_through.ensures.beginning in
    elim c.if-clears.branch [
      | then-clears+in_ok-write_whole w ↦
          rw w.if-clears.true
          (begins_then start (g.W.CountedWrite.contents w.write_whole.new.out) end (clear_text true) text w.in_ok-write_whole.ensures.written (rw w.out-is at printed))
      | else-clears w ↦ rw w.if-clears.false (rw w.out-is at printed)
    ]
