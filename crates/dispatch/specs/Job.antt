-- The run of a job by a worker's thread (docs/SWITCH.md, "Workers").
use Rattle.std.specs.Prelude.{◌≡◌, ◌==◌, ◌≤◌, if◌then◌else◌, ◌+◌, ◌%◌, ◌^◌, ◌++◌, ◌∷◌, ◌⊎◌, Err, List, Ok, Option, Result, [], false, length, true, ℕ}
use Rattle.std.specs.List.{All}
use Rattle.dispatch.specs.declared.batches.BatchDone.{BatchDone}
use Rattle.dispatch.specs.declared.batches.BatchFault.{BatchFault}
use Rattle.dispatch.specs.declared.batches.BatchFault.TheVariants.{CountFull, ReceiveFailed}
use Rattle.dispatch.specs.Batch.{AreJudged, IsBatch, IsFull, Judged, Parts, all_counted_for, all_sent, counted_but_last, failed_sends, packets_of}
use Rattle.dispatch.specs.Device.{AreGivenAfter, Gives, IsAtEnd, Sent, Takes}
use Rattle.dispatch.specs.Tally.{CounterValue, place_of}
use Rattle.packet_verdict.specs.declared.kind.Kind.TheVariants as kind

-- a job goes on after a batch that came to its limit or whose source failed
abbrev pub GoesOn : Result BatchDone BatchFault → Type 0
GoesOn (Ok done) = done.more ≡ true
GoesOn (Err ReceiveFailed) = Unit {0}
GoesOn (Err CountFull) = ⊥

-- it ends with a batch whose source reported that no more come, or whose counter is full
abbrev pub EndsWith : Result BatchDone BatchFault → Type 0
EndsWith (Ok done) = done.more ≡ false
EndsWith (Err ReceiveFailed) = ⊥
EndsWith (Err CountFull) = Unit {0}

-- a job is one batch or more: each but the last is gone on after, and it ends with the last
pub data IsJob (room limit : ℕ) : Parts → Parts → Type 0 where
  runs_to_the_end : (before after : Parts) (answer : Result BatchDone BatchFault) → IsBatch room limit before after answer → EndsWith answer → IsJob room limit before after
  then_goes_on : (before mid after : Parts) (answer : Result BatchDone BatchFault) → IsBatch room limit before mid answer → GoesOn answer → IsJob room limit mid after
      → IsJob room limit before after

-- ---- a job as a whole

-- These datagrams were given, received into so much room and judged, one after the other, and these sends were made. The worker, the
-- source and the outbox did nothing else. How often the source failed is left open.
pub record PassThrough (room : ℕ) (before after : Parts) (judged : List Judged) (sent : List Sent) : Type 0 where
  pub own_section_each : AreJudged before.worker judged after.worker
  pub given_once : Gives room before.source.coming after.source.coming (packets_of judged)
  pub given_in_order : AreGivenAfter room before.source.given after.source.given (packets_of judged)
  pub sent_once : Takes before.outbox.taken after.outbox.taken sent
  pub outbox_failures : after.outbox.failures ≡ failed_sends judged + before.outbox.failures

-- the counter without its counts of failed receives
abbrev pub but_receives : CounterValue → CounterValue
but_receives counter = record { table = counter.table; log = without_receives counter.log }
  where
    without_receives : List ℕ → List ℕ
    without_receives [] = []
    without_receives (place ∷ log) = if place == place_of kind.ReceiveFailed then without_receives log else place ∷ without_receives log

-- what was counted of a last datagram, if there is one
abbrev pub counted_of_last : List Judged → CounterValue → CounterValue
counted_of_last [] counter = counter
counted_of_last (last ∷ rest) counter = counted_but_last last counter

-- The datagrams of all batches of a job, each counted once, and what it sent of them. The job ends with its source, or with a full
-- counter. Then one datagram more may have been judged of which nothing was sent, since its verdict or its failed send could not be
-- counted.
pub record JudgesAll (room : ℕ) (before after : Parts) : Type 0 where
  pub judged : List Judged
  pub uncounted : List Judged
  pub through : PassThrough room before after (judged ++ uncounted) (all_sent judged)
  pub counted_once : but_receives after.counter ≡ counted_of_last uncounted (all_counted_for judged (but_receives before.counter))
  pub end : ((uncounted ≡ []) × IsAtEnd after.source.coming) ⊎ (IsFull after.counter × (length uncounted ≤ 1))

-- so does every job
abbrev pub EachJudgesAll : Type 0
EachJudgesAll = (room limit : ℕ) (before after : Parts) → IsJob room limit before after → JudgesAll room before after

-- ---- the numbers of batches

-- a batch of this number begins, or has ended
pub data GateEvent : Type 0 where
  started : (batch : ℕ) → GateEvent
  ended : (batch : ℕ) → GateEvent

-- A job whose first batch has this number, and each further one `step` more, modulo 2^64. The gate is called when each batch begins, and
-- then when it has ended, before the next one begins.
pub data IsNumberedJob (room limit step : ℕ) : ℕ → Parts → Parts → List GateEvent → Type 0 where
  last_batch : (number : ℕ) (before after : Parts) (answer : Result BatchDone BatchFault) → IsBatch room limit before after answer → EndsWith answer
      → IsNumberedJob room limit step number before after (started number ∷ ended number ∷ [])
  one_batch : (number : ℕ) (before mid after : Parts) (answer : Result BatchDone BatchFault) (events : List GateEvent) → IsBatch room limit before mid answer → GoesOn answer
      → IsNumberedJob room limit step ((number + step) % 2 ^ 64) mid after events → IsNumberedJob room limit step number before after (started number ∷ ended number ∷ events)

-- the same, as far as the numbers are known
pub record IsToldJob (room limit step number : ℕ) (log log' : Option (List GateEvent)) (before after : Parts) : Type 0 where
  pub events : List GateEvent
  pub logged : Takes log log' events
  pub job : IsNumberedJob room limit step number before after events

-- a numbered job, and the gate was called for each of its events
pub record IsGatedJob (Called : GateEvent → Type 0) (room limit step number : ℕ) (before after : Parts) : Type 0 where
  pub events : List GateEvent
  pub job : IsNumberedJob room limit step number before after events
  pub called : All Called events
