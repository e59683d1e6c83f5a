-- A run and one datagram more.
use Rattle.std.proofs.Common.{◌≡◌, ◌∙◌, ◌+◌, ◌++◌, ◌<◌, ◌∷◌, Err, List, Ok, Option, Result, [], ap, append-nil, arith, false, inl, inr, length, refl, subst, sym, true, ℕ}
use Rattle.std.proofs.lemmas.List.{map-append}
use Rattle.std.proofs.lemmas.List.Concat.{flat_map-append}
use Rattle.std.proofs.lemmas.List.Sums.{sum_by-append, sum_by-cons}
use Rattle.read_section.specs.Worker.{IsOutside, WorkerValue}
use Rattle.std.specs.Result.{IsErrAnd}
use Rattle.dispatch.specs.declared.batches.BatchDone.{BatchDone}
use Rattle.dispatch.specs.declared.batches.BatchFault.{BatchFault}
use Rattle.dispatch.specs.declared.batches.BatchFault.TheVariants as fault
use Rattle.packet_verdict.specs.declared.kind.Kind.TheVariants as kind
use Rattle.dispatch.specs.Batch.{AreJudged, FailsToReceive, IsCutShort, IsFull, IsJudged, IsRun, Judged, Parts, all_counted_for, all_sent, counted_as, counted_for, one_if, packets_of, sent_of}
use Rattle.dispatch.specs.Device.{AreGivenAfter, Gives, IsAtEnd, OutboxValue, Sent, Takes}
use Rattle.dispatch.specs.Tally.{CounterValue}
use Rattle.dispatch.specs.Told.{IsToldBatch, Told, all_told, told_of, told_of_last}
use Rattle.dispatch.specs.WorkerSteps.{AddsOwnSteps}
use Rattle.dispatch.proofs.DeviceLemmas.{after_more, after_nothing, gives_more, gives_nothing, takes_more, takes_nothing}

judged_more : (before mid after : WorkerValue) (judged : List Judged) (one : Judged) → AreJudged before judged mid → IsJudged mid one → after ≡ one.after
    → AreJudged before (judged ++ one ∷ []) after
judged_more before mid after [] one same last is = (subst (λ (w : WorkerValue). IsJudged w one) same last, is)
judged_more before mid after (first ∷ rest) one each last is = (each.0, judged_more first.after mid after rest one each.1 last is)

counted_more : (judged : List Judged) (one : Judged) (counter : CounterValue) → all_counted_for (judged ++ one ∷ []) counter ≡ counted_for one (all_counted_for judged counter)
counted_more [] one counter = refl
counted_more (first ∷ rest) one counter = counted_more rest one (counted_for first counter)

-- one datagram was received, judged, counted and sent
pub record IsOne (room : ℕ) (before after : Parts) (judged : Judged) : Type 0 where
  pub own_section : IsJudged before.worker judged
  pub after_it : after.worker ≡ judged.after
  pub given_once : Gives room before.source.coming after.source.coming (judged.packet ∷ [])
  pub given_in_order : AreGivenAfter room before.source.given after.source.given (judged.packet ∷ [])
  pub counted_once : after.counter ≡ counted_for judged before.counter
  pub sent_once : Takes before.outbox.taken after.outbox.taken (sent_of judged)
  pub source_healthy : after.source.failures ≡ before.source.failures
  pub outbox_failures : after.outbox.failures ≡ one_if judged.failed + before.outbox.failures

pub run_of_none : (room : ℕ) (parts : Parts) → IsRun room parts parts []
run_of_none room parts = record {
  own_section_each = refl;
  given_once = gives_nothing room parts.source.coming;
  given_in_order = after_nothing room parts.source.given;
  counted_once = refl;
  sent_once = takes_nothing parts.outbox.taken;
  source_healthy = refl;
  outbox_failures = omega arith;
}

pub run_more : (room : ℕ) (before mid after : Parts) (judged : List Judged) (one : Judged) → IsRun room before mid judged → IsOne room mid after one
    → IsRun room before after (judged ++ one ∷ [])
run_more room before mid after judged one run last = record {
  own_section_each = judged_more before.worker mid.worker after.worker judged one run.own_section_each last.own_section last.after_it;
  given_once = subst (λ (given : List (List ℕ)). Gives room before.source.coming after.source.coming given) (sym (map-append (λ (j : Judged). j.packet) judged (one ∷ [])))
      (gives_more room before.source.coming mid.source.coming after.source.coming (packets_of judged) (one.packet ∷ []) run.given_once last.given_once);
  given_in_order = subst (λ (given : List (List ℕ)). AreGivenAfter room before.source.given after.source.given given) (sym (map-append (λ (j : Judged). j.packet) judged (one ∷ [])))
      (after_more room before.source.given mid.source.given after.source.given (packets_of judged) (one.packet ∷ []) run.given_in_order last.given_in_order);
  counted_once = last.counted_once ∙ ap (λ (counter : CounterValue). counted_for one counter) run.counted_once ∙ sym (counted_more judged one before.counter);
  sent_once = subst (λ (sent : List Sent). Takes before.outbox.taken after.outbox.taken sent) (sym (flat_map-append sent_of judged (one ∷ []) ∙ ap (λ (sent : List Sent). all_sent judged ++ sent) (append-nil (sent_of one))))
      (takes_more before.outbox.taken mid.outbox.taken after.outbox.taken (all_sent judged) (sent_of one) run.sent_once last.sent_once);
  source_healthy = last.source_healthy ∙ run.source_healthy;
  outbox_failures = let fails = λ (j : Judged). one_if j.failed in let more = sum_by-append fails judged (one ∷ []) in let alone = sum_by-cons fails one [] in
      let so_far = run.outbox_failures in let then = last.outbox_failures in omega arith;
}

-- a run of so many datagrams, which left the worker outside where it was so before, by steps of its own
pub record IsRunOf (room : ℕ) (before after : Parts) (count : ℕ) : Type 0 where
  pub judged : List Judged
  pub run : IsRun room before after judged
  pub count_is : length judged ≡ count
  pub outside : IsOutside before.worker.view.stage → IsOutside after.worker.view.stage
  pub own_steps : AddsOwnSteps before.worker after.worker

-- the same, and the outbox was told of each datagram
pub record IsToldRunOf (room : ℕ) (before after : Parts) (told told' : Option (List Told)) (count : ℕ) : Type 0 where
  pub so_far : IsRunOf room before after count
  pub told_each : Takes told told' (all_told so_far.judged)

pub told_more : (told mid told' : Option (List Told)) (judged : List Judged) (one : Judged) → Takes told mid (all_told judged) → Takes mid told' (told_of one)
    → Takes told told' (all_told (judged ++ one ∷ []))
told_more told mid told' judged one first second =
    subst (λ (news : List Told). Takes told told' news)
    (sym (flat_map-append told_of judged (one ∷ []) ∙ ap (λ (news : List Told). all_told judged ++ news) (append-nil (told_of one))))
    (takes_more told mid told' (all_told judged) (told_of one) first second)

-- a run after which the source gave nothing, and nothing else happened
pub run_on : (room : ℕ) (before mid after : Parts) (judged : List Judged) → IsRun room before mid judged → after.worker ≡ mid.worker → after.counter ≡ mid.counter
    → after.outbox ≡ mid.outbox → Gives room mid.source.coming after.source.coming [] → AreGivenAfter room mid.source.given after.source.given []
    → after.source.failures ≡ mid.source.failures → IsRun room before after judged
run_on room before mid after judged run worker counter outbox given given_no_more healthy = record {
  own_section_each = subst (λ (w : WorkerValue). AreJudged before.worker judged w) (sym worker) run.own_section_each;
  given_once = subst (λ (given : List (List ℕ)). Gives room before.source.coming after.source.coming given) (append-nil (packets_of judged))
      (gives_more room before.source.coming mid.source.coming after.source.coming (packets_of judged) [] run.given_once given);
  given_in_order = subst (λ (given : List (List ℕ)). AreGivenAfter room before.source.given after.source.given given) (append-nil (packets_of judged))
      (after_more room before.source.given mid.source.given after.source.given (packets_of judged) [] run.given_in_order given_no_more);
  counted_once = counter ∙ run.counted_once;
  sent_once = subst (λ (o : OutboxValue). Takes before.outbox.taken o.taken (all_sent judged)) (sym outbox) run.sent_once;
  source_healthy = healthy ∙ run.source_healthy;
  outbox_failures = ap (λ (o : OutboxValue). o.failures) outbox ∙ run.outbox_failures;
}

told_no_more : (told told' : Option (List Told)) (judged : List Judged) → Takes told told' (all_told judged) → Takes told told' (all_told judged ++ [])
told_no_more told told' judged each = subst (λ (news : List Told). Takes told told' news) (sym (append-nil (all_told judged))) each

-- a batch that came to an end
module _ (room limit : ℕ) (before mid after : Parts) (told told' : Option (List Told)) (count : ℕ) (run : IsToldRunOf room before mid told told' count) where
  pub at_limit : count ≡ limit → after ≡ mid → IsToldBatch room limit before after (Ok (record { judged = limit; more = true })) told told'
  at_limit all same = record {
    batch = record { judged = run.so_far.judged; last = mid; run = run.so_far.run; end = (same, sym (run.so_far.count_is ∙ all), run.so_far.count_is ∙ all) };
    last = [];
    at_end = refl;
    told_once = told_no_more told told' run.so_far.judged run.told_each;
  }

  pub at_end : count < limit → IsRun room before after run.so_far.judged → IsAtEnd after.source.coming
      → IsToldBatch room limit before after (Ok (record { judged = count; more = false })) told told'
  at_end few run_to ends = record {
    batch = record { judged = run.so_far.judged; last = after; run = run_to; end = (refl, sym run.so_far.count_is, (omega (arith, run.so_far.count_is), ends)) };
    last = [];
    at_end = refl;
    told_once = told_no_more told told' run.so_far.judged run.told_each;
  }

  pub failed : count < limit → FailsToReceive room mid after → after.counter ≡ counted_as kind.ReceiveFailed mid.counter
      → IsToldBatch room limit before after (Err fault.ReceiveFailed) told told'
  failed few fails counted = record {
    batch = record { judged = run.so_far.judged; last = mid; run = run.so_far.run; end = (omega (arith, run.so_far.count_is), fails, counted) };
    last = [];
    at_end = refl;
    told_once = told_no_more told told' run.so_far.judged run.told_each;
  }

  pub failed_full : count < limit → FailsToReceive room mid after → after.counter ≡ mid.counter → IsFull after.counter
      → IsToldBatch room limit before after (Err fault.CountFull) told told'
  failed_full few fails same full = record {
    batch = record { judged = run.so_far.judged; last = mid; run = run.so_far.run; end = (omega (arith, run.so_far.count_is), full, inl (fails, same)) };
    last = [];
    at_end = inl (fails, refl);
    told_once = told_no_more told told' run.so_far.judged run.told_each;
  }

  pub cut_short : count < limit → (last : Judged) → IsCutShort room mid after last → IsFull after.counter → (told'' : Option (List Told))
      → Takes told' told'' (told_of_last last) → IsToldBatch room limit before after (Err fault.CountFull) told told''
  cut_short few last cut full told'' more = record {
    batch = record { judged = run.so_far.judged; last = mid; run = run.so_far.run; end = (omega (arith, run.so_far.count_is), full, inr (last, cut)) };
    last = told_of_last last;
    at_end = inr (last, cut, refl);
    told_once = takes_more told told' told'' (all_told run.so_far.judged) (told_of_last last) run.told_each more;
  }

-- what the outbox tells is the same
pub still_told : (room : ℕ) (before after : Parts) (told told' : Option (List Told)) {told'' : Option (List Told)} (count : ℕ) → told' ≡ told'' → IsToldRunOf room before after told told'' count
    → IsToldRunOf room before after told told' count
still_told room before after told told' count same run = subst (λ (t : Option (List Told)). IsToldRunOf room before after told t count) (sym same) run

-- the answer is that the counter is full
pub answered : (room limit : ℕ) (before after : Parts) (told told' : Option (List Told)) (answer : Result BatchDone BatchFault) → IsErrAnd answer (λ f. f ≡ fault.CountFull)
    → IsToldBatch room limit before after (Err fault.CountFull) told told' → IsToldBatch room limit before after answer told told'
answered room limit before after told told' (Ok done) is batch = absurd is
answered room limit before after told told' (Err f) is batch = subst (λ (f : BatchFault). IsToldBatch room limit before after (Err f) told told') (sym is) batch
