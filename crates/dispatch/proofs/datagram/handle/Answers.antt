use Rattle.std.proofs.Common.{ap, arith, length, refl, subst, true, false, ◌∙◌, ◌∷◌, []}
use Rattle.packet_verdict.specs.declared.kind.Kind.{Kind}
use Rattle.packet_verdict.specs.declared.kind.Kind.TheVariants as kind
use Rattle.dispatch.specs.Batch.{counted_as, counted_if, delivery, sent_unless}
use Rattle.dispatch.specs.Device.{OutboxValue, Takes}
use Rattle.dispatch.specs.Tally.{CounterValue}
use Rattle.dispatch.specs.Told.{failure_told, judged_as, send_failed}
use Rattle.dispatch.proofs.DatagramLemmas.{on_err, on_err_too, on_ok_too}
use Rattle.dispatch.proofs.DeviceLemmas.{takes_more, takes_nothing}
use Rattle.dispatch.proofs.datagram.handle.Goals as goal

pub returns-in_err-count-clause-not_counted : goal.returns-in_err-count-clause-not_counted
returns-in_err-count-clause-not_counted g c =
    let judged = c.judge_in_section.ensures.judged in
    on_err c.from_residual.result (record {
      judged = record { packet = c.args.packet.now; inside = judged.0; after = c.judge_in_section.new.worker; verdict = c.judge_in_section.new.judged; failed = false };
      packet_is = refl;
      own_section = judged.1 false;
      after = refl;
      full = ap (λ (counter : CounterValue). length counter.log) c.in_err-count.ensures.kept ∙ c.in_err-count.ensures.count_full.0 refl;
      counted_before = c.in_err-count.ensures.kept;
      sent_nothing = takes_nothing (g.O.VerdictOutbox.state c.args.outbox.now).taken;
      outbox_failures = omega arith;
      told_once = takes_nothing (g.O.VerdictOutbox.told c.args.outbox.now);
    })

pub returns-clause-handled : goal.returns-clause-handled
returns-clause-handled g c =
    let judged = c.judge_in_section.ensures.judged in
    on_ok_too c.deliver.result c.deliver.ensures.delivered (λ sent. record {
      judged = record { packet = c.args.packet.now; inside = judged.0; after = c.judge_in_section.new.worker; verdict = c.judge_in_section.new.judged; failed = sent.failed };
      packet_is = refl;
      own_section = judged.1 sent.failed;
      after = refl;
      counted_once = sent.counted_once
          ∙ ap (λ (counter : CounterValue). counted_if sent.failed kind.SendFailed counter)
          (c.in_ok-count.ensures.one_count ∙ ap (λ (k : Kind). counted_as k c.args.counter.now) c.kind.ensures);
      sent_once = subst (λ (o : OutboxValue). Takes o.taken (g.O.VerdictOutbox.state c.deliver.new.outbox).taken
          (sent_unless sent.failed (delivery c.judge_in_section.new.judged c.args.packet.now))) c.tell.ensures.unchanged sent.sent_once;
      outbox_failures = let fails = sent.outbox_failures in let still = ap (λ (o : OutboxValue). o.failures) c.tell.ensures.unchanged in omega arith;
      told_once = takes_more (g.O.VerdictOutbox.told c.args.outbox.now) (g.O.VerdictOutbox.told c.tell.new.self) (g.O.VerdictOutbox.told c.deliver.new.outbox)
          (judged_as c.judge_in_section.new.judged c.args.packet.now ∷ []) (failure_told sent.failed) c.tell.ensures.told_once sent.told_once;
    })

pub returns-clause-not_counted : goal.returns-clause-not_counted
returns-clause-not_counted g c =
    let judged = c.judge_in_section.ensures.judged in
    on_err_too c.deliver.result c.deliver.ensures.undelivered (λ unsent. record {
      judged = record { packet = c.args.packet.now; inside = judged.0; after = c.judge_in_section.new.worker; verdict = c.judge_in_section.new.judged; failed = true };
      packet_is = refl;
      own_section = judged.1 true;
      after = refl;
      full = ap (λ (counter : CounterValue). length counter.log) unsent.counter_kept ∙ unsent.full;
      counted_before = unsent.counter_kept ∙ (c.in_ok-count.ensures.one_count ∙ ap (λ (k : Kind). counted_as k c.args.counter.now) c.kind.ensures);
      sent_nothing = subst (λ (o : OutboxValue). Takes o.taken (g.O.VerdictOutbox.state c.deliver.new.outbox).taken []) c.tell.ensures.unchanged unsent.sent_nothing;
      outbox_failures = let one = unsent.one_failure in let still = ap (λ (o : OutboxValue). o.failures) c.tell.ensures.unchanged in omega arith;
      told_once = takes_more (g.O.VerdictOutbox.told c.args.outbox.now) (g.O.VerdictOutbox.told c.tell.new.self) (g.O.VerdictOutbox.told c.deliver.new.outbox)
          (judged_as c.judge_in_section.new.judged c.args.packet.now ∷ []) (send_failed ∷ []) c.tell.ensures.told_once unsent.told_once;
    })
