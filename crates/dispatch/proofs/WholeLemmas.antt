-- The batches of a job as one.
use Rattle.std.proofs.Common.{◌≡◌, ◌∙◌, ◌++◌, ◌∷◌, ◌⊎◌, Bool, Err, List, Ok, Result, [], ap, append-nil, append_assoc, arith, false, inl, inr, length, refl, subst, sym, true, ℕ}
use Rattle.std.proofs.lemmas.List.{map-append}
use Rattle.std.proofs.lemmas.List.Concat.{flat_map-append}
use Rattle.std.proofs.lemmas.List.Sums.{sum_by-append, sum_by-cons}
use Rattle.dispatch.specs.declared.batches.BatchDone.{BatchDone}
use Rattle.dispatch.specs.declared.batches.BatchFault.{BatchFault}
use Rattle.dispatch.specs.declared.batches.BatchFault.TheVariants.{CountFull, ReceiveFailed}
use Rattle.dispatch.specs.Batch.{AreJudged, Ends, FailsToReceive, IsBatch, IsCutShort, IsRun, Judged, Parts, all_counted_for, all_sent, counted_as, counted_but_last, counted_for, counted_if, kind_of, one_if, packets_of, sent_of}
use Rattle.dispatch.specs.Device.{AreGivenAfter, Gives, IsAtEnd, OutboxValue, Sent, Takes}
use Rattle.dispatch.specs.Job.{EachJudgesAll, EndsWith, GoesOn, JudgesAll, PassThrough, but_receives, counted_of_last, runs_to_the_end, then_goes_on}
use Rattle.dispatch.specs.Tally.{CounterValue}
use Rattle.packet_verdict.specs.declared.kind.Kind.TheVariants as kind
use Rattle.packet_verdict.specs.declared.verdict.Verdict.{Verdict}
use Rattle.packet_verdict.specs.declared.verdict.Verdict.TheVariants.{Deliver, Dropped, Malformed, NoGroup, NoMembers}
use Rattle.dispatch.proofs.DeviceLemmas.{after_more, gives_more, takes_more, takes_nothing}
use Rattle.read_section.specs.Worker.{WorkerValue}

judged_after : (before mid after : WorkerValue) (first then : List Judged) → AreJudged before first mid → AreJudged mid then after → AreJudged before (first ++ then) after
judged_after before mid after [] then same two = subst (λ (w : WorkerValue). AreJudged w then after) same two
judged_after before mid after (one ∷ rest) then each two = (each.0, judged_after one.after mid after rest then each.1 two)

-- ---- counting, without failed receives

kind_but_receives : (verdict : Verdict) (counter : CounterValue) → but_receives (counted_as (kind_of verdict) counter) ≡ counted_as (kind_of verdict) (but_receives counter)
kind_but_receives Malformed counter = refl
kind_but_receives NoGroup counter = refl
kind_but_receives NoMembers counter = refl
kind_but_receives (Dropped group member) counter = refl
kind_but_receives (Deliver group member to bytes) counter = refl

send_but_receives : (failed : Bool) (counter : CounterValue) → but_receives (counted_if failed kind.SendFailed counter) ≡ counted_if failed kind.SendFailed (but_receives counter)
send_but_receives true counter = refl
send_but_receives false counter = refl

one_but_receives : (one : Judged) (counter : CounterValue) → but_receives (counted_for one counter) ≡ counted_for one (but_receives counter)
one_but_receives one counter =
    send_but_receives one.failed (counted_as (kind_of one.verdict) counter) ∙ ap (counted_if one.failed kind.SendFailed) (kind_but_receives one.verdict counter)

all_but_receives : (judged : List Judged) (counter : CounterValue) → but_receives (all_counted_for judged counter) ≡ all_counted_for judged (but_receives counter)
all_but_receives [] counter = refl
all_but_receives (one ∷ rest) counter = all_but_receives rest (counted_for one counter) ∙ ap (all_counted_for rest) (one_but_receives one counter)

last_but_receives : (one : Judged) (counter : CounterValue) → but_receives (counted_but_last one counter) ≡ counted_but_last one (but_receives counter)
last_but_receives one counter = maybe one.failed
  where
    maybe : (failed : Bool) → but_receives (counted_if failed (kind_of one.verdict) counter) ≡ counted_if failed (kind_of one.verdict) (but_receives counter)
    maybe true = kind_but_receives one.verdict counter
    maybe false = refl

counted_after : (first then : List Judged) (counter : CounterValue) → all_counted_for (first ++ then) counter ≡ all_counted_for then (all_counted_for first counter)
counted_after [] then counter = refl
counted_after (one ∷ rest) then counter = counted_after rest then (counted_for one counter)

-- ---- batches that are gone on after, and the last one

module _ (room : ℕ) where
  run_through : (before after : Parts) (judged : List Judged) → IsRun room before after judged → PassThrough room before after judged (all_sent judged)
  run_through before after judged run = record {
    own_section_each = run.own_section_each;
    given_once = run.given_once;
    given_in_order = run.given_in_order;
    sent_once = run.sent_once;
    outbox_failures = run.outbox_failures;
  }

  run_counts : (before after : Parts) (judged : List Judged) → IsRun room before after judged
      → but_receives after.counter ≡ all_counted_for judged (but_receives before.counter)
  run_counts before after judged run = ap but_receives run.counted_once ∙ all_but_receives judged before.counter

  none_through : (before after : Parts) → FailsToReceive room before after → PassThrough room before after [] []
  none_through before after fails = record {
    own_section_each = fails.worker;
    given_once = fails.given_nothing;
    given_in_order = fails.given_no_more;
    sent_once = subst (λ (o : OutboxValue). Takes before.outbox.taken o.taken []) (sym fails.outbox) (takes_nothing before.outbox.taken);
    outbox_failures = let same = ap (λ (o : OutboxValue). o.failures) fails.outbox in omega arith;
  }

  uncounted_through : (before after : Parts) (one : Judged) → IsCutShort room before after one → PassThrough room before after (one ∷ []) []
  uncounted_through before after one cut = record {
    own_section_each = (cut.own_section, cut.worker);
    given_once = cut.given_once;
    given_in_order = cut.given_in_order;
    sent_once = cut.sent_nothing;
    outbox_failures = let alone = sum_by-cons (λ (j : Judged). one_if j.failed) one [] in let fails = cut.outbox_failures in omega arith;
  }

  through_more : (before mid after : Parts) (first then : List Judged) (sent more : List Sent) → PassThrough room before mid first sent → PassThrough room mid after then more
      → PassThrough room before after (first ++ then) (sent ++ more)
  through_more before mid after first then sent more one two =
      let packets = map-append (λ (j : Judged). j.packet) first then in
      record {
        own_section_each = judged_after before.worker mid.worker after.worker first then one.own_section_each two.own_section_each;
        given_once = subst (λ (given : List (List ℕ)). Gives room before.source.coming after.source.coming given) (sym packets)
            (gives_more room before.source.coming mid.source.coming after.source.coming (packets_of first) (packets_of then) one.given_once two.given_once);
        given_in_order = subst (λ (given : List (List ℕ)). AreGivenAfter room before.source.given after.source.given given) (sym packets)
            (after_more room before.source.given mid.source.given after.source.given (packets_of first) (packets_of then) one.given_in_order two.given_in_order);
        sent_once = takes_more before.outbox.taken mid.outbox.taken after.outbox.taken sent more one.sent_once two.sent_once;
        outbox_failures = let both = sum_by-append (λ (j : Judged). one_if j.failed) first then in
            let so_far = one.outbox_failures in let later = two.outbox_failures in omega arith;
      }

  -- the parts stayed as they were
  still_through : (before mid after : Parts) (judged : List Judged) (sent : List Sent) → after ≡ mid → PassThrough room before mid judged sent → PassThrough room before after judged sent
  still_through before mid after judged sent same through = subst (λ (p : Parts). PassThrough room before p judged sent) (sym same) through

  -- nothing more was judged or sent
  and_none : (before mid after : Parts) (judged : List Judged) (sent : List Sent) → PassThrough room before mid judged sent → PassThrough room mid after [] []
      → PassThrough room before after judged sent
  and_none before mid after judged sent one two =
      subst (λ (j : List Judged). PassThrough room before after j sent) (append-nil judged)
      (subst (λ (s : List Sent). PassThrough room before after (judged ++ []) s) (append-nil sent) (through_more before mid after judged [] sent [] one two))

  goes_through : (limit : ℕ) (before after : Parts) (answer : Result BatchDone BatchFault) (batch : IsBatch room limit before after answer) → GoesOn answer
      → PassThrough room before after batch.judged (all_sent batch.judged)
  goes_through limit before after (Ok done) batch on =
      still_through before batch.last after batch.judged (all_sent batch.judged) batch.end.0 (run_through before batch.last batch.judged batch.run)
  goes_through limit before after (Err ReceiveFailed) batch on =
      and_none before batch.last after batch.judged (all_sent batch.judged) (run_through before batch.last batch.judged batch.run) (none_through batch.last after batch.end.1)
  goes_through limit before after (Err CountFull) batch on = absurd on

  counts_through : (limit : ℕ) (before after : Parts) (answer : Result BatchDone BatchFault) (batch : IsBatch room limit before after answer) → GoesOn answer
      → but_receives after.counter ≡ all_counted_for batch.judged (but_receives before.counter)
  counts_through limit before after (Ok done) batch on = ap (λ (p : Parts). but_receives p.counter) batch.end.0 ∙ run_counts before batch.last batch.judged batch.run
  counts_through limit before after (Err ReceiveFailed) batch on = ap but_receives batch.end.2 ∙ run_counts before batch.last batch.judged batch.run
  counts_through limit before after (Err CountFull) batch on = absurd on

  at_end : (more : Bool) (count limit : ℕ) (after : Parts) → more ≡ false → Ends more count limit after → IsAtEnd after.source.coming
  at_end true count limit after is ends = cc
  at_end false count limit after is ends = ends.1

  -- the last batch
  ends_through : (limit : ℕ) (before after : Parts) (answer : Result BatchDone BatchFault) → IsBatch room limit before after answer → EndsWith answer → JudgesAll room before after
  ends_through limit before after (Ok done) batch over = record {
    judged = batch.judged;
    uncounted = [];
    through = subst (λ (j : List Judged). PassThrough room before after j (all_sent batch.judged)) (sym (append-nil batch.judged))
        (still_through before batch.last after batch.judged (all_sent batch.judged) batch.end.0 (run_through before batch.last batch.judged batch.run));
    counted_once = ap (λ (p : Parts). but_receives p.counter) batch.end.0 ∙ run_counts before batch.last batch.judged batch.run;
    end = inl (refl, at_end done.more (length batch.judged) limit after over batch.end.2);
  }
  ends_through limit before after (Err ReceiveFailed) batch over = absurd over
  ends_through limit before after (Err CountFull) batch over = full batch.end.2
    where
      run : PassThrough room before batch.last batch.judged (all_sent batch.judged)
      run = run_through before batch.last batch.judged batch.run

      full : ((FailsToReceive room batch.last after × (after.counter ≡ batch.last.counter)) ⊎ ((last : Judged) × IsCutShort room batch.last after last)) → JudgesAll room before after
      full (inl (fails, same)) = record {
        judged = batch.judged;
        uncounted = [];
        through = subst (λ (j : List Judged). PassThrough room before after j (all_sent batch.judged)) (sym (append-nil batch.judged))
            (and_none before batch.last after batch.judged (all_sent batch.judged) run (none_through batch.last after fails));
        counted_once = ap but_receives same ∙ run_counts before batch.last batch.judged batch.run;
        end = inr (batch.end.1, omega arith);
      }
      full (inr (last, cut)) = record {
        judged = batch.judged;
        uncounted = last ∷ [];
        through = subst (λ (s : List Sent). PassThrough room before after (batch.judged ++ last ∷ []) s) (append-nil (all_sent batch.judged))
            (through_more before batch.last after batch.judged (last ∷ []) (all_sent batch.judged) [] run (uncounted_through batch.last after last cut));
        counted_once = ap but_receives cut.counted_before ∙ (last_but_receives last batch.last.counter
            ∙ ap (counted_but_last last) (run_counts before batch.last batch.judged batch.run));
        end = inr (batch.end.1, omega arith);
      }

  and_all : (before mid after : Parts) (judged : List Judged) → PassThrough room before mid judged (all_sent judged)
      → but_receives mid.counter ≡ all_counted_for judged (but_receives before.counter) → JudgesAll room mid after → JudgesAll room before after
  and_all before mid after judged first counts later = record {
    judged = judged ++ later.judged;
    uncounted = later.uncounted;
    through = subst (λ (j : List Judged). PassThrough room before after j (all_sent (judged ++ later.judged))) (sym (append_assoc judged later.judged later.uncounted))
        (subst (λ (s : List Sent). PassThrough room before after (judged ++ (later.judged ++ later.uncounted)) s) (sym (flat_map-append sent_of judged later.judged))
        (through_more before mid after judged (later.judged ++ later.uncounted) (all_sent judged) (all_sent later.judged) first later.through));
    counted_once = later.counted_once ∙ ap (counted_of_last later.uncounted)
        (ap (all_counted_for later.judged) counts ∙ sym (counted_after judged later.judged (but_receives before.counter)));
    end = later.end;
  }

pub each_judges_all : EachJudgesAll
each_judges_all room limit before after (runs_to_the_end _ _ answer batch over) = ends_through room limit before after answer batch over
each_judges_all room limit before after (then_goes_on _ mid _ answer batch on rest) =
    and_all room before mid after batch.judged (goes_through room limit before mid answer batch on) (counts_through room limit before mid answer batch on)
    (each_judges_all room limit mid after rest)
