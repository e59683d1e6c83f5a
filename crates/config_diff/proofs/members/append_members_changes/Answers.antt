use Rattle.std.proofs.Common.{◌<◌, ◌≡◌, arith, length, subst}
use Rattle.std.proofs.lemmas.Result.{on_ok_weaker}
use Rattle.config_diff.proofs.StayLemmas.{GetsTheRest, replaced_at_end, replaced_from, rest_after_one}
use Rattle.config_diff.proofs.members.append_members_changes.Goals as goal

pub returns-then-not-can_stay : goal.returns-then-not-can_stay
returns-then-not-can_stay g c =
    let shared = c.min-shared.ensures in
    let at = c.loop-at-test.true in
    let inside : c.loop-at.at < length c.args.from.now = omega arith in
    let inside_to : c.loop-at.at < length c.args.to.now = omega arith in
    record {
      appended = on_ok_weaker c.append_replaced_members.result
          (replaced_from c.args.key c.args.from.now c.args.to.now c.loop-at.at c.index-from-at.result c.index-to-at.result inside c.index-from-at.is inside_to c.index-to-at.is _ _ _
          c.can_stay.result c.can_stay.ensures.exact c.if-not-can_stay.true c.loop-at.invariant)
          c.append_replaced_members.ensures.appended;
    }

pub loop-at-preserved : goal.loop-at-preserved
loop-at-preserved g c =
    let shared = c.min-shared.ensures in
    let at = c.loop-at-test.true in
    let inside : c.loop-at.at < length c.args.from.now = omega arith in
    let inside_to : c.loop-at.at < length c.args.to.now = omega arith in
    rest_after_one c.args.key c.args.from.now c.args.to.now c.loop-at.at c.index-from-at.result c.index-to-at.result inside c.index-from-at.is inside_to c.index-to-at.is _ _ _
    c.can_stay.result c.can_stay.ensures.exact c.if-not-can_stay.false c.loop-at.invariant c.in_ok-append_member_changes.ensures.appended

pub returns : goal.returns
returns g c =
    let shared = c.min-shared.ensures in
    let end = c.loop-at-test.false in
    let last = c.loop-at.auto.at-end in
    let place : c.loop-at.at ≡ c.min-shared.result = omega arith in
    let gets = subst (GetsTheRest c.args.changes.now.items c.loop-at.changes.items c.args.key c.args.from.now c.args.to.now) place c.loop-at.invariant in
    record {
      appended = on_ok_weaker c.append_replaced_members-2.result
          (replaced_at_end c.args.key c.args.from.now c.args.to.now c.min-shared.result (λ inside inside_to. omega arith) _ _ _ gets)
          c.append_replaced_members-2.ensures.appended;
    }
