use Rattle.std.proofs.Common.{Ok, Option, ap, arith, length, refl, subst, ◌++◌, ◌∷◌, ◌∙◌, [], List}
use Rattle.std.proofs.lemmas.List.{length-append}
use Rattle.dispatch.specs.Batch.{Parts, sent_of}
use Rattle.dispatch.specs.Device.{OutboxValue, Takes}
use Rattle.dispatch.specs.Told.{Told, told_of, told_of_last}
use Rattle.dispatch.specs.Tally.{CounterValue}
use Rattle.dispatch.proofs.BatchLemmas.{answered, at_end, at_limit, cut_short, failed, failed_full, run_more, run_of_none, run_on, still_told, told_more}
use Rattle.dispatch.proofs.DeviceLemmas.{after_none, after_nothing_to, after_one, gives_none, gives_nothing_to, gives_one, takes_nothing}
use Rattle.dispatch.proofs.StepLemmas.{adds_more, adds_nothing, judging_adds, judging_leaves}
use Rattle.dispatch.proofs.batches.run_batch.Goals as goal

pub loop-judged-init : goal.loop-judged-init
loop-judged-init g c =
    let begun : Parts = record { worker = c.args.worker.now; counter = c.args.counter.now; source = g.S.Source.state c.args.source.now; outbox = g.O.VerdictOutbox.state c.args.outbox.now } in
    record {
      so_far = record { judged = []; run = run_of_none (length c.args.buf.now) begun; count_is = refl; outside = λ outside. outside; own_steps = adds_nothing begun.worker };
      told_each = takes_nothing (g.O.VerdictOutbox.told c.args.outbox.now);
    }

pub loop-judged-preserved : goal.loop-judged-preserved
loop-judged-preserved g c =
    let so_far = c.loop-judged.invariant.so_far in let one = c.in_ok-handle.ensures.handled in let some = c.in-Ok-Some in
    let before : Parts = record { worker = c.args.worker.now; counter = c.args.counter.now; source = g.S.Source.state c.args.source.now; outbox = g.O.VerdictOutbox.state c.args.outbox.now } in
    let mid : Parts = record { worker = c.loop-judged.worker; counter = c.loop-judged.counter; source = g.S.Source.state c.loop-judged.source; outbox = g.O.VerdictOutbox.state c.loop-judged.outbox } in
    let after : Parts = record { worker = c.handle.new.worker; counter = c.handle.new.counter; source = g.S.Source.state c.receive.new.source; outbox = g.O.VerdictOutbox.state c.handle.new.outbox } in
    let longer = length-append so_far.judged (one.judged ∷ []) in let count = so_far.count_is in
    record {
      so_far = record {
        judged = so_far.judged ++ one.judged ∷ [];
        run = run_more (length c.args.buf.now) before mid after so_far.judged one.judged so_far.run (record {
          own_section = one.own_section;
          after_it = one.after;
          given_once = gives_one (length c.args.buf.now) mid.source.coming after.source.coming c.receive.new.buf one.judged.packet some.size some.field-0 some.field-0-is
              (let same = c.receive.auto.buf in let still = c.loop-judged.auto.buf in omega arith) one.packet_is some.ensures.given_once;
          given_in_order = after_one (length c.args.buf.now) mid.source.given after.source.given c.receive.new.buf one.judged.packet some.size some.field-0 some.field-0-is
              (let same = c.receive.auto.buf in let still = c.loop-judged.auto.buf in omega arith) one.packet_is some.ensures.given_in_order;
          counted_once = one.counted_once;
          sent_once = subst (λ (o : OutboxValue). Takes o.taken after.outbox.taken (sent_of one.judged)) some.ensures.outbox_kept one.sent_once;
          source_healthy = some.ensures.device_failed;
          outbox_failures = let fails = one.outbox_failures in let still = ap (λ (o : OutboxValue). o.failures) some.ensures.outbox_kept in omega arith;
        });
        count_is = omega arith;
        outside = λ begun. judging_leaves mid.worker after.worker one.judged one.own_section one.after;
        own_steps = adds_more before.worker mid.worker after.worker so_far.own_steps (judging_adds mid.worker after.worker one.judged one.own_section one.after);
      };
      told_each = told_more (g.O.VerdictOutbox.told c.args.outbox.now) (g.O.VerdictOutbox.told c.loop-judged.outbox) (g.O.VerdictOutbox.told c.handle.new.outbox) so_far.judged one.judged
          c.loop-judged.invariant.told_each
          (subst (λ (told : Option (List Told)). Takes told (g.O.VerdictOutbox.told c.handle.new.outbox) (told_of one.judged)) some.ensures.told_kept one.told_once);
    }

pub returns-clause-batch : goal.returns-clause-batch
returns-clause-batch g c =
    at_limit (length c.args.buf.now) c.args.limit _ _ _ _ _ c.loop-judged.judged c.loop-judged.invariant
    (let inside = c.loop-judged.auto.judged-end in let over = c.loop-judged-test.false in omega arith) refl

pub returns-in-Ok-None-clause-batch : goal.returns-in-Ok-None-clause-batch
returns-in-Ok-None-clause-batch g c =
    let none = c.in-Ok-None in
    let run = still_told _ _ _ _ (g.O.VerdictOutbox.told c.receive.new.outbox) c.loop-judged.judged none.ensures.told_kept c.loop-judged.invariant in
    at_end (length c.args.buf.now) c.args.limit _ _ _ _ _ c.loop-judged.judged run c.loop-judged-test.true
    (run_on (length c.args.buf.now) _ _ _ run.so_far.judged run.so_far.run refl refl none.ensures.outbox_kept
    (gives_none (length c.args.buf.now) _ _ c.receive.new.buf none.field-0 none.field-0-is none.ensures.given_once)
    (after_none (length c.args.buf.now) _ _ c.receive.new.buf none.field-0 none.field-0-is none.ensures.given_in_order) none.ensures.device_failed)
    (none.ensures.end (ap Ok none.field-0-is))

pub returns-in-Err-clause-batch : goal.returns-in-Err-clause-batch
returns-in-Err-clause-batch g c =
    let err = c.in-Err in
    let run = still_told _ _ _ _ (g.O.VerdictOutbox.told c.receive.new.outbox) c.loop-judged.judged err.ensures.told_kept c.loop-judged.invariant in
    failed (length c.args.buf.now) c.args.limit _ _ _ _ _ c.loop-judged.judged run c.loop-judged-test.true
    (record {
      worker = refl;
      outbox = err.ensures.outbox_kept;
      given_nothing = gives_nothing_to (length c.args.buf.now) (length c.receive.new.buf) _ _ err.ensures.given_once;
      given_no_more = after_nothing_to (length c.args.buf.now) (length c.receive.new.buf) _ _ err.ensures.given_in_order;
      one_failure = err.ensures.device_failed;
    })
    c.in_ok-count-in-Err.ensures.one_count

pub returns-in_err-count-in-Err-clause-batch : goal.returns-in_err-count-in-Err-clause-batch
returns-in_err-count-in-Err-clause-batch g c =
    let err = c.in-Err in
    let run = still_told _ _ _ _ (g.O.VerdictOutbox.told c.receive.new.outbox) c.loop-judged.judged err.ensures.told_kept c.loop-judged.invariant in
    answered _ _ _ _ _ _ c.from_residual.result c.from_residual.ensures.1
    (failed_full (length c.args.buf.now) c.args.limit _ _ _ _ _ c.loop-judged.judged run c.loop-judged-test.true
    (record {
      worker = refl;
      outbox = err.ensures.outbox_kept;
      given_nothing = gives_nothing_to (length c.args.buf.now) (length c.receive.new.buf) _ _ err.ensures.given_once;
      given_no_more = after_nothing_to (length c.args.buf.now) (length c.receive.new.buf) _ _ err.ensures.given_in_order;
      one_failure = err.ensures.device_failed;
    })
    c.in_err-count-in-Err.ensures.kept
    (ap (λ (counter : CounterValue). length counter.log) c.in_err-count-in-Err.ensures.kept ∙ c.in_err-count-in-Err.ensures.count_full.0 refl))

pub returns-in_err-handle-clause-batch : goal.returns-in_err-handle-clause-batch
returns-in_err-handle-clause-batch g c =
    let one = c.in_err-handle.ensures.not_counted in let some = c.in-Ok-Some in
    let mid : Parts = record { worker = c.loop-judged.worker; counter = c.loop-judged.counter; source = g.S.Source.state c.loop-judged.source; outbox = g.O.VerdictOutbox.state c.loop-judged.outbox } in
    let after : Parts = record { worker = c.handle.new.worker; counter = c.handle.new.counter; source = g.S.Source.state c.receive.new.source; outbox = g.O.VerdictOutbox.state c.handle.new.outbox } in
    answered _ _ _ _ _ _ c.from_residual-in_err-handle.result c.from_residual-in_err-handle.ensures.1
    (cut_short (length c.args.buf.now) c.args.limit _ mid after _ (g.O.VerdictOutbox.told c.loop-judged.outbox) c.loop-judged.judged c.loop-judged.invariant c.loop-judged-test.true one.judged
    (record {
      own_section = one.own_section;
      worker = one.after;
      given_once = gives_one (length c.args.buf.now) mid.source.coming after.source.coming c.receive.new.buf one.judged.packet some.size some.field-0 some.field-0-is
          (let same = c.receive.auto.buf in let still = c.loop-judged.auto.buf in omega arith) one.packet_is some.ensures.given_once;
      given_in_order = after_one (length c.args.buf.now) mid.source.given after.source.given c.receive.new.buf one.judged.packet some.size some.field-0 some.field-0-is
          (let same = c.receive.auto.buf in let still = c.loop-judged.auto.buf in omega arith) one.packet_is some.ensures.given_in_order;
      counted_before = one.counted_before;
      sent_nothing = subst (λ (o : OutboxValue). Takes o.taken after.outbox.taken []) some.ensures.outbox_kept one.sent_nothing;
      source_healthy = some.ensures.device_failed;
      outbox_failures = let fails = one.outbox_failures in let still = ap (λ (o : OutboxValue). o.failures) some.ensures.outbox_kept in omega arith;
    })
    one.full (g.O.VerdictOutbox.told c.handle.new.outbox)
    (subst (λ (told : Option (List Told)). Takes told (g.O.VerdictOutbox.told c.handle.new.outbox) (told_of_last one.judged)) some.ensures.told_kept one.told_once))

pub returns-in_err-handle-clause-outside : goal.returns-in_err-handle-clause-outside
returns-in_err-handle-clause-outside g c =
    let one = c.in_err-handle.ensures.not_counted in λ begun. judging_leaves c.loop-judged.worker c.handle.new.worker one.judged one.own_section one.after

pub returns-in_err-handle-clause-only_own_steps : goal.returns-in_err-handle-clause-only_own_steps
returns-in_err-handle-clause-only_own_steps g c =
    let one = c.in_err-handle.ensures.not_counted in
    adds_more c.args.worker.now c.loop-judged.worker c.handle.new.worker c.loop-judged.invariant.so_far.own_steps
    (judging_adds c.loop-judged.worker c.handle.new.worker one.judged one.own_section one.after)
