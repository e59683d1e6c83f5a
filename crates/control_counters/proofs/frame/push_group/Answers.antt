use Rattle.std.proofs.Common.{refl, subst}
use Rattle.control_rules.specs.Shown.{IsGroupAt}
use Rattle.control_rules.proofs.FoundLemmas.{some_holds}
use Rattle.control_counters.proofs.FrameLemmas.{group_added}
use Rattle.control_rules.proofs.StopLemmas.{err_is, match_after, stops_memory}
use Rattle.control_counters.proofs.frame.push_group.Goals as goal

pub returns : goal.returns
returns g c =
    match_after c.args.client.now c.ask_group.new.client c.push_seats.new.client _ _ _ c.push_seats.result c.in_ok-shown.ensures c.push_seats.ensures
    (λ all history are first seats done.
    let here = some_holds (λ shown. IsGroupAt (history shown.version) c.args.index shown) _ c.in-Some.shown first c.in-Some.is in
    group_added (history c.args.version) (are c.args.version) c.args.index c.in-Some.shown c.args.groups.now.items c.push_row.new.rows.items
    c.args.members.now.items c.push_seats.new.rows.items _
    (subst (λ v. IsGroupAt (history v) c.args.index c.in-Some.shown) c.if-shown-version.false here)
    c.in_ok-push_row.ensures refl (seats done))

pub returns-in_err-shown : goal.returns-in_err-shown
returns-in_err-shown g c =
    rw (err_is c.from_residual.result c.in_err-shown.field-0.0 c.from_residual.ensures.1)
    (c.in_err-shown.ensures)

pub returns-in_err-push_row : goal.returns-in_err-push_row
returns-in_err-push_row g c =
    rw (err_is c.from_residual-in_err-push_row.result c.in_err-push_row.field-0.0 c.from_residual-in_err-push_row.ensures.1)
    (stops_memory c.in_err-push_row.field-0.0 c.args.client.now c.ask_group.new.client _ c.in_err-push_row.ensures c.in_ok-shown.ensures)
