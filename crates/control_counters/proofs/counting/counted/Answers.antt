use Rattle.std.proofs.Common.{◌∙◌, ◌++◌, List, ap, ap₂, refl}
use Rattle.control_client.specs.Exchange.{Exchange}
use Rattle.control_rules.proofs.FoundLemmas.{some_holds}
use Rattle.control_counters.specs.Frame.{keys_of, seats_of}
use Rattle.control_counters.proofs.WatchLemmas.{watches_then, watches_weaker}
use Rattle.control_rules.proofs.StopLemmas.{err_is}
use Rattle.control_counters.proofs.WatchLemmas.{stops_watching}
use Rattle.control_counters.proofs.counting.counted.Goals as goal

pub returns-in_default-2 : goal.returns-in_default-2
returns-in_default-2 g c =
    watches_weaker c.args.client.now c.count_groups.new.client _ _ (λ history told are it. tt)
    (watches_then c.args.client.now c.ask_totals.new.client c.count_groups.new.client _ _ c.in_ok-totals.ensures c.in_ok-groups.ensures)

pub returns-in_default-3 : goal.returns-in_default-3
returns-in_default-3 g c =
    let two = watches_then c.args.client.now c.ask_totals.new.client c.count_groups.new.client _ _ c.in_ok-totals.ensures c.in_ok-groups.ensures in
    watches_weaker c.args.client.now c.count_members.new.client _ _ (λ history told are it. tt)
    (watches_then c.args.client.now c.count_groups.new.client c.count_members.new.client _ _ two c.in_ok-members.ensures)

pub returns : goal.returns
returns g c =
    let two = watches_then c.args.client.now c.ask_totals.new.client c.count_groups.new.client _ _ c.in_ok-totals.ensures c.in_ok-groups.ensures in
    watches_weaker c.args.client.now c.count_members.new.client _ _
    (λ history told are it.
    let totals = some_holds _ _ c.in-Some.totals it.first.first c.in-Some.is in
    let groups = some_holds _ _ c.in-Some-2.groups it.first.next c.in-Some-2.is in
    let members = some_holds _ _ c.in-Some-3.members it.next c.in-Some-3.is in (
      record { version = refl; charge = refl; groups = groups.0 ∙ ap keys_of c.deref.ensures.value; members = members.0 ∙ ap seats_of c.deref-2.ensures.value },
      it.whole ∙ ap₂ (λ (a b : List Exchange). a ++ b) (it.first.whole ∙ ap₂ (λ (a b : List Exchange). a ++ b) totals groups.1) members.1,
    ))
    (watches_then c.args.client.now c.count_groups.new.client c.count_members.new.client _ _ two c.in_ok-members.ensures)

pub returns-in_err-totals : goal.returns-in_err-totals
returns-in_err-totals g c =
    rw (err_is c.from_residual.result c.in_err-totals.field-0.0 c.from_residual.ensures.1)
    (c.in_err-totals.ensures)

pub returns-in_err-groups : goal.returns-in_err-groups
returns-in_err-groups g c =
    rw (err_is c.from_residual-in_err-groups.result c.in_err-groups.field-0.0 c.from_residual-in_err-groups.ensures.1)
    (stops_watching c.in_err-groups.field-0.0 c.args.client.now c.ask_totals.new.client c.count_groups.new.client _ c.in_ok-totals.ensures c.in_err-groups.ensures)

pub returns-in_err-members : goal.returns-in_err-members
returns-in_err-members g c =
    rw (err_is c.from_residual-in_err-members.result c.in_err-members.field-0.0 c.from_residual-in_err-members.ensures.1)
    (stops_watching c.in_err-members.field-0.0 c.args.client.now c.count_groups.new.client c.count_members.new.client _
    (watches_then c.args.client.now c.ask_totals.new.client c.count_groups.new.client _ _ c.in_ok-totals.ensures c.in_ok-groups.ensures) c.in_err-members.ensures)
