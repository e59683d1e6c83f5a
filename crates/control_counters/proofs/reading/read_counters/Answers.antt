use Rattle.control_rules.proofs.FoundLemmas.{some_holds}
use Rattle.control_counters.proofs.ReadingLemmas.{later_counters, named_last}
use Rattle.control_counters.proofs.WatchLemmas.{fails_later, watches_nothing, watches_then, watches_weaker}
use Rattle.std.proofs.Common.{ℕ}
use Rattle.control_counters.specs.Reading.{IsNamed}
use Rattle.control_rules.proofs.StopLemmas.{err_is}
use Rattle.control_counters.proofs.reading.read_counters.Goals as goal

pub loop-turn-init : goal.loop-turn-init
loop-turn-init g c = (watches_nothing c.args.client.now _ (λ history are. tt), λ history known. known)

pub returns-in-Some : goal.returns-in-Some
returns-in-Some g c =
    watches_weaker c.args.client.now c.read_once.new.client _ _
    (λ history told are it known.
    later_counters history told it.one it.more c.in-Some.reading.counters it.whole
    (some_holds _ _ c.in-Some.reading (it.next (c.loop-turn.invariant.1 history known)) c.in-Some.is))
    (watches_then c.args.client.now c.loop-turn.client c.read_once.new.client _ _ c.loop-turn.invariant.0 c.in_ok-reading.ensures)

pub loop-turn-preserved : goal.loop-turn-preserved
loop-turn-preserved g c = (
  watches_weaker c.args.client.now c.read_once.new.client _ _ (λ history told are it. tt)
      (watches_then c.args.client.now c.loop-turn.client c.read_once.new.client _ _ c.loop-turn.invariant.0 c.in_ok-reading.ensures),
  λ history known. tt,
)

pub returns-in_err-reading : goal.returns-in_err-reading
returns-in_err-reading g c =
    rw (err_is c.from_residual.result c.in_err-reading.field-0.0 c.from_residual.ensures.1)
    (fails_later (λ told. (version : ℕ) × IsNamed told version) _ c.args.client.now c.loop-turn.client c.read_once.new.client c.loop-turn.invariant.0 (λ told. (version : ℕ) × IsNamed told version) c.in_err-reading.field-0.0
    (λ history told are it. (it.next.0, named_last told it.one it.more it.next.0 it.whole it.next.1)) c.in_err-reading.ensures)
