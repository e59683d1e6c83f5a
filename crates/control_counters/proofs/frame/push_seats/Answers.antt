use Rattle.std.proofs.Common.{arith, refl, subst}
use Rattle.std.proofs.lemmas.Bool.{false≢true}
use Rattle.control_rules.specs.Shown.{IsMemberAt}
use Rattle.control_rules.proofs.FoundLemmas.{some_holds}
use Rattle.control_rules.proofs.LearnLemmas.{learns_nothing, learns_then, learns_weaker}
use Rattle.control_counters.proofs.FrameLemmas.{seats_begin, seats_end, seats_more}
use Rattle.control_rules.proofs.StopLemmas.{err_is, stops_after, stops_memory}
use Rattle.control_counters.proofs.frame.push_seats.Goals as goal

pub loop-index-init : goal.loop-index-init
loop-index-init g c = learns_nothing c.args.client.now _ (λ history are. seats_begin (history c.args.version) c.args.key c.args.members c.args.rows.now.items)

pub returns-in_default : goal.returns-in_default
returns-in_default g c =
    learns_weaker c.args.client.now c.ask_member.new.client _ _ (λ history are both done. absurd (false≢true done))
    (learns_then c.args.client.now c.loop-index.client c.ask_member.new.client _ _ c.loop-index.invariant c.in_ok-shown.ensures)

pub returns-then-shown-version : goal.returns-then-shown-version
returns-then-shown-version g c =
    learns_weaker c.args.client.now c.ask_member.new.client _ _ (λ history are both done. absurd (false≢true done))
    (learns_then c.args.client.now c.loop-index.client c.ask_member.new.client _ _ c.loop-index.invariant c.in_ok-shown.ensures)

pub loop-index-preserved : goal.loop-index-preserved
loop-index-preserved g c =
    learns_weaker c.args.client.now c.ask_member.new.client _ _
    (λ history are both.
    let here = some_holds (λ shown. IsMemberAt (history shown.version) c.args.key c.loop-index.index shown) _ c.in-Some.shown both.1 c.in-Some.is in
    seats_more (history c.args.version) c.args.key c.args.members c.loop-index.index c.in-Some.shown c.args.rows.now.items c.loop-index.rows.items c.push_row.new.rows.items _
    (subst (λ v. IsMemberAt (history v) c.args.key c.loop-index.index c.in-Some.shown) c.if-shown-version.false here)
    both.0 c.in_ok-push_row.ensures refl)
    (learns_then c.args.client.now c.loop-index.client c.ask_member.new.client _ _ c.loop-index.invariant c.in_ok-shown.ensures)

pub returns : goal.returns
returns g c =
    learns_weaker c.args.client.now c.loop-index.client _ _
    (λ history are first done. seats_end (history c.args.version) c.args.key c.args.members c.loop-index.index c.args.rows.now.items c.loop-index.rows.items
    (omega (arith, c.loop-index-test.false, c.loop-index.auto.index-end)) first)
    c.loop-index.invariant

pub returns-in_err-shown : goal.returns-in_err-shown
returns-in_err-shown g c =
    rw (err_is c.from_residual.result c.in_err-shown.field-0.0 c.from_residual.ensures.1)
    (stops_after c.in_err-shown.field-0.0 c.args.client.now c.loop-index.client c.ask_member.new.client _ c.loop-index.invariant c.in_err-shown.ensures)

pub returns-in_err-push_row : goal.returns-in_err-push_row
returns-in_err-push_row g c =
    rw (err_is c.from_residual-in_err-push_row.result c.in_err-push_row.field-0.0 c.from_residual-in_err-push_row.ensures.1)
    (stops_memory c.in_err-push_row.field-0.0 c.args.client.now c.ask_member.new.client _ c.in_err-push_row.ensures
    (learns_then c.args.client.now c.loop-index.client c.ask_member.new.client _ _ c.loop-index.invariant c.in_ok-shown.ensures))
