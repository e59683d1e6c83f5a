use Rattle.std.proofs.Common.{◌≡◌, ◌<◌, arith, get_or, length, subst}
use Rattle.std.proofs.lemmas.Option.{slice_get-get_or}
use Rattle.versions.specs.declared.layout.TheConstants.{WORKERS}
use Rattle.control.specs.body.Ready.{MetFirst}
use Rattle.control.proofs.MeetLemmas.{none_met, one_more_met}
use Rattle.control.proofs.switch.meet_all.Goals as goal

pub meet-requires : goal.meet-requires
meet-requires c =
    let inside : c.loop-w.w < length c.loop-w.workers = omega arith in
    (c.loop-w.invariant.outside.each c.loop-w.w _ (slice_get-get_or c.loop-w.workers c.loop-w.w c.index-workers-w.result inside)).table_is

pub loop-w-init : goal.loop-w-init
loop-w-init c = none_met c.args.operator.now c.args.workers.now c.requires.outside

pub loop-w-preserved : goal.loop-w-preserved
loop-w-preserved c =
    let inside : c.loop-w.w < length c.loop-w.workers = omega arith in
    one_more_met c.loop-w.w c.args.operator.now c.loop-w.operator c.meet.new.operator c.args.workers.now c.loop-w.workers (get_or c.loop-w.workers c.loop-w.w c.index-workers-w.result) c.meet.new.self c.loop-w.invariant
    (slice_get-get_or c.loop-w.workers c.loop-w.w c.index-workers-w.result inside) c.meet.ensures.meets_by_two_steps c.meet.ensures.told_all

pub returns : goal.returns
returns c =
    let all : c.loop-w.w ≡ WORKERS = omega arith in
    record { met = subst (λ w. MetFirst w c.args.operator.now c.loop-w.operator c.args.workers.now c.loop-w.workers) all c.loop-w.invariant }
