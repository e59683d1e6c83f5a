use Rattle.std.proofs.Common.{subst, sym, ℕ}
use Rattle.control_rules.proofs.FoundLemmas.{some_holds}
use Rattle.control_counters.specs.Reading.{IsKnown, IsNamed}
use Rattle.control_counters.proofs.ReadingLemmas.{named_first, shown_counters, some_all}
use Rattle.control_counters.proofs.WatchLemmas.{match_later, watches_weaker}
use Rattle.control_counters.specs.Failing.{asking_stopped}
use Rattle.control_rules.proofs.StopLemmas.{err_is}
use Rattle.control_counters.proofs.reading.read_once.Goals as goal

pub returns-in_default : goal.returns-in_default
returns-in_default g c = watches_weaker c.args.client.now c.ask_measures.new.client _ _ (λ history told are it known. tt) c.in_ok-shown.ensures

pub returns-in-Some-earlier : goal.returns-in-Some-earlier
returns-in-Some-earlier g c =
    match_later (λ told. (version : ℕ) × IsNamed told version) _ c.args.client.now c.ask_measures.new.client c.recounted.new.client c.in_ok-shown.ensures _ _ c.recounted.result c.recounted.ensures
    (λ answer history told are it known.
    let shown = some_holds _ _ c.in-Some.shown it.first c.in-Some.is in
    let named = subst (IsNamed it.one) (sym (c.is_unchanged.ensures c.if-is_unchanged.true)) shown.1 in
    some_all _ _ (λ reading read. shown_counters history c.in-Some-earlier.known.now.version told it.one it.more reading.counters it.whole named read) answer
    (it.next (subst (IsKnown history) c.in-Some-earlier.is known)))
    (λ history told are it.
    let shown = some_holds _ _ c.in-Some.shown it.first c.in-Some.is in
    (c.in-Some.shown.version, named_first told it.one it.more c.in-Some.shown.version it.whole shown.1))

pub returns-in_default-earlier : goal.returns-in_default-earlier
returns-in_default-earlier g c =
    match_later (λ told. (version : ℕ) × IsNamed told version) _ c.args.client.now c.ask_measures.new.client c.read_anew.new.client c.in_ok-shown.ensures _ _ c.read_anew.result c.read_anew.ensures
    (λ answer history told are it known.
    let shown = some_holds _ _ c.in-Some.shown it.first c.in-Some.is in
    some_all _ _ (λ reading read. shown_counters history c.in-Some.shown.version told it.one it.more reading.counters it.whole shown.1 read) answer (it.next shown.0))
    (λ history told are it.
    let shown = some_holds _ _ c.in-Some.shown it.first c.in-Some.is in
    (c.in-Some.shown.version, named_first told it.one it.more c.in-Some.shown.version it.whole shown.1))

pub returns-in_err-shown : goal.returns-in_err-shown
returns-in_err-shown g c =
    rw (err_is c.from_residual.result c.in_err-shown.field-0.0 c.from_residual.ensures.1)
    (asking_stopped c.in_err-shown.ensures)
