use Rattle.std.proofs.Common.{[], refl}
use Rattle.control_rules.proofs.FoundLemmas.{some_holds}
use Rattle.control_counters.proofs.ReadingLemmas.{counters_after}
use Rattle.control_counters.proofs.WatchLemmas.{watches_weaker}
use Rattle.control_counters.specs.Failing.{asking_stopped, no_time}
use Rattle.control_rules.proofs.StopLemmas.{err_is}
use Rattle.control_counters.proofs.WatchLemmas.{watches_nothing}
use Rattle.control_counters.proofs.reading.recounted.Goals as goal

pub returns : goal.returns
returns g c =
    watches_weaker c.args.client.now c.counted.new.client _ _
    (λ history told are it known. counters_after history c.args.known.now.version told [] told c.args.known.now c.in-Some.counters refl refl known (some_holds _ _ c.in-Some.counters it c.in-Some.is))
    c.in_ok-counters.ensures

pub returns-in_err-begun : goal.returns-in_err-begun
returns-in_err-begun g c =
    rw (err_is c.from_residual.result c.in_err-begun.field-0.0 c.from_residual.ensures.1)
    (no_time c.in_err-begun.ensures (watches_nothing c.args.client.now _ (λ history are. tt)))

pub returns-in_err-counters : goal.returns-in_err-counters
returns-in_err-counters g c =
    rw (err_is c.from_residual-in_err-counters.result c.in_err-counters.field-0.0 c.from_residual-in_err-counters.ensures.1)
    (asking_stopped c.in_err-counters.ensures)
