use Rattle.control_rules.proofs.FoundLemmas.{some_holds}
use Rattle.control_counters.proofs.ReadingLemmas.{counters_after}
use Rattle.control_counters.proofs.WatchLemmas.{of_learns, watches_then, watches_weaker}
use Rattle.control_counters.specs.Failing.{asking_stopped, no_time}
use Rattle.control_rules.proofs.StopLemmas.{err_is}
use Rattle.control_counters.proofs.WatchLemmas.{stops_watching, stops_wider}
use Rattle.control_counters.proofs.reading.read_anew.Goals as goal

pub returns-in_default : goal.returns-in_default
returns-in_default g c =
    watches_weaker c.args.client.now c.read_frame.new.client _ _ (λ history told are it shown. tt) (of_learns c.args.client.now c.read_frame.new.client _ c.in_ok-frame.ensures)

pub returns-in_default-2 : goal.returns-in_default-2
returns-in_default-2 g c =
    watches_weaker c.args.client.now c.counted.new.client _ _ (λ history told are it shown. tt)
    (watches_then c.args.client.now c.read_frame.new.client c.counted.new.client _ _ (of_learns c.args.client.now c.read_frame.new.client _ c.in_ok-frame.ensures)
    c.in_ok-counters.ensures)

pub returns : goal.returns
returns g c =
    watches_weaker c.args.client.now c.counted.new.client _ _
    (λ history told are it shown.
    let frame = some_holds _ _ c.in-Some.frame (it.first shown) c.in-Some.is in
    counters_after history c.args.shown.version told it.one it.more c.in-Some.frame c.in-Some-2.counters it.whole frame.0 frame.1
    (some_holds _ _ c.in-Some-2.counters it.next c.in-Some-2.is))
    (watches_then c.args.client.now c.read_frame.new.client c.counted.new.client _ _ (of_learns c.args.client.now c.read_frame.new.client _ c.in_ok-frame.ensures)
    c.in_ok-counters.ensures)

pub returns-in_err-frame : goal.returns-in_err-frame
returns-in_err-frame g c =
    rw (err_is c.from_residual.result c.in_err-frame.field-0.0 c.from_residual.ensures.1)
    (asking_stopped (stops_wider c.in_err-frame.field-0.0 c.args.client.now c.read_frame.new.client c.in_err-frame.ensures))

pub returns-in_err-begun : goal.returns-in_err-begun
returns-in_err-begun g c =
    rw (err_is c.from_residual-in_err-begun.result c.in_err-begun.field-0.0 c.from_residual-in_err-begun.ensures.1)
    (no_time c.in_err-begun.ensures (watches_weaker c.args.client.now c.read_frame.new.client _ _ (λ history told are it. tt) (of_learns c.args.client.now c.read_frame.new.client _ c.in_ok-frame.ensures)))

pub returns-in_err-counters : goal.returns-in_err-counters
returns-in_err-counters g c =
    rw (err_is c.from_residual-in_err-counters.result c.in_err-counters.field-0.0 c.from_residual-in_err-counters.ensures.1)
    (asking_stopped (stops_watching c.in_err-counters.field-0.0 c.args.client.now c.read_frame.new.client c.counted.new.client _ (of_learns c.args.client.now c.read_frame.new.client _ c.in_ok-frame.ensures) c.in_err-counters.ensures))
