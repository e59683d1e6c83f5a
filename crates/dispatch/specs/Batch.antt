-- The effect of a batch on the datagrams of its source (docs/SWITCH.md, "Batches").
use Rattle.std.specs.Prelude.{◌≡◌, ◌+◌, ◌<◌, ◌∷◌, ◌⊎◌, Bool, Err, List, Ok, Result, [], false, flat_map, length, map, suc, sum_by, take, true, ℕ}
use Rattle.read_section.specs.Section.{HoldsLastSeen, IsWholeSection}
use Rattle.read_section.specs.Worker.{WorkerValue}
use Rattle.versions.specs.View.{IsTold}
use Rattle.dispatch.specs.declared.batches.BatchDone.{BatchDone}
use Rattle.dispatch.specs.declared.batches.BatchFault.{BatchFault}
use Rattle.dispatch.specs.declared.batches.BatchFault.TheVariants as fault
use Rattle.packet_verdict.specs.declared.kind.Kind.{Kind}
use Rattle.packet_verdict.specs.declared.kind.Kind.TheVariants as kind
use Rattle.dispatch.specs.declared.tally.TheConstants.{COUNT_LIMIT}
use Rattle.packet_verdict.specs.declared.verdict.Verdict.{Verdict}
use Rattle.packet_verdict.specs.declared.verdict.Verdict.TheVariants.{Deliver}
use Rattle.dispatch.specs.Device.{AreGivenAfter, Gives, IsAtEnd, OutboxValue, Sent, SourceValue, Takes}
use Rattle.dispatch.specs.Tally.{CounterValue, counted, place_of}
pub use Rattle.packet_verdict.specs.Kind.{kind_of}
use Rattle.packet_verdict.specs.Sound.{ProgramsAreSound}
use Rattle.packet_verdict.specs.Verdict.{value_of, verdict}

-- the bytes that a verdict sends: the first bytes of the packet
abbrev pub delivery : Verdict → List ℕ → List Sent
delivery (Deliver group member to bytes) packet = record { to = to; bytes = take bytes packet } ∷ []
delivery _ packet = []

-- a datagram that was judged: its bytes, its worker inside the section in which it was judged and after that, its verdict, and
-- whether its send failed
pub record Judged : Type 0 where
  pub packet : List ℕ
  pub inside : WorkerValue
  pub after : WorkerValue
  pub verdict : Verdict
  pub failed : Bool

-- it was judged in its own section, by the newest version that its worker had seen at the section's pin, whose programs
-- never get stuck on it
pub record IsJudged (before : WorkerValue) (judged : Judged) : Type 0 where
  pub own_section : IsWholeSection before judged.inside judged.after
  pub seen_grows : IsTold before.view.seen judged.inside.view
  pub last_seen : HoldsLastSeen judged.inside
  pub verdict_of_seen : judged.verdict ≡ verdict value_of last_seen.config judged.packet
  pub programs_sound : ProgramsAreSound last_seen.config judged.packet

-- the datagrams were judged one after the other, and the worker did nothing else
abbrev pub AreJudged : WorkerValue → List Judged → WorkerValue → Type 0
AreJudged before [] after = after ≡ before
AreJudged before (first ∷ rest) after = IsJudged before first × AreJudged first.after rest after

abbrev pub packets_of : List Judged → List (List ℕ)
packets_of judged = map (λ (one : Judged). one.packet) judged

-- the sends that did not fail
abbrev pub sent_unless : Bool → List Sent → List Sent
sent_unless true sent = []
sent_unless false sent = sent

abbrev pub sent_of : Judged → List Sent
sent_of judged = sent_unless judged.failed (delivery judged.verdict judged.packet)

abbrev pub all_sent : List Judged → List Sent
all_sent judged = flat_map sent_of judged

abbrev pub one_if : Bool → ℕ
one_if true = 1
one_if false = 0

abbrev pub failed_sends : List Judged → ℕ
failed_sends judged = sum_by (λ (one : Judged). one_if one.failed) judged

-- a kind was counted, once
abbrev pub counted_as : Kind → CounterValue → CounterValue
counted_as kind counter = counted (place_of kind) counter

abbrev pub counted_if : Bool → Kind → CounterValue → CounterValue
counted_if true kind counter = counted_as kind counter
counted_if false kind counter = counter

-- a datagram's verdict was counted, and then its send, if that failed
abbrev pub counted_for : Judged → CounterValue → CounterValue
counted_for judged counter = counted_if judged.failed kind.SendFailed (counted_as (kind_of judged.verdict) counter)

abbrev pub all_counted_for : List Judged → CounterValue → CounterValue
all_counted_for [] counter = counter
all_counted_for (first ∷ rest) counter = all_counted_for rest (counted_for first counter)

-- the arguments of a batch, as they are at some moment
pub record Parts : Type 0 where
  pub worker : WorkerValue
  pub counter : CounterValue
  pub source : SourceValue
  pub outbox : OutboxValue

-- these datagrams were received into so much room, judged, counted and sent, each once, and nothing else happened
pub record IsRun (room : ℕ) (before after : Parts) (judged : List Judged) : Type 0 where
  pub own_section_each : AreJudged before.worker judged after.worker
  pub given_once : Gives room before.source.coming after.source.coming (packets_of judged)
  pub given_in_order : AreGivenAfter room before.source.given after.source.given (packets_of judged)
  pub counted_once : after.counter ≡ all_counted_for judged before.counter
  pub sent_once : Takes before.outbox.taken after.outbox.taken (all_sent judged)
  pub source_healthy : after.source.failures ≡ before.source.failures
  pub outbox_failures : after.outbox.failures ≡ failed_sends judged + before.outbox.failures

-- a counter counts no more
abbrev pub IsFull : CounterValue → Type 0
IsFull counter = length counter.log ≡ COUNT_LIMIT

-- how often a datagram was counted whose verdict or whose failed send could not be
abbrev pub counted_but_last : Judged → CounterValue → CounterValue
counted_but_last judged counter = counted_if judged.failed (kind_of judged.verdict) counter

-- the source failed
pub record FailsToReceive (room : ℕ) (before after : Parts) : Type 0 where
  pub worker : after.worker ≡ before.worker
  pub outbox : after.outbox ≡ before.outbox
  pub given_nothing : Gives room before.source.coming after.source.coming []
  pub given_no_more : AreGivenAfter room before.source.given after.source.given []
  pub one_failure : after.source.failures ≡ suc before.source.failures

-- one datagram more was judged, but its verdict could not be counted, so nothing was sent; or its send failed, and that could
-- not be counted
pub record IsCutShort (room : ℕ) (before after : Parts) (judged : Judged) : Type 0 where
  pub own_section : IsJudged before.worker judged
  pub worker : after.worker ≡ judged.after
  pub given_once : Gives room before.source.coming after.source.coming (judged.packet ∷ [])
  pub given_in_order : AreGivenAfter room before.source.given after.source.given (judged.packet ∷ [])
  pub counted_before : after.counter ≡ counted_but_last judged before.counter
  pub sent_nothing : Takes before.outbox.taken after.outbox.taken []
  pub source_healthy : after.source.failures ≡ before.source.failures
  pub outbox_failures : after.outbox.failures ≡ one_if judged.failed + before.outbox.failures

-- it came to its limit, or its source reported that no more come
abbrev pub Ends : Bool → ℕ → ℕ → Parts → Type 0
Ends true judged limit after = judged ≡ limit
Ends false judged limit after = (judged < limit) × IsAtEnd after.source.coming

-- after so many datagrams were judged, a batch ends so
abbrev pub IsEnd : ℕ → ℕ → ℕ → Parts → Parts → Result BatchDone BatchFault → Type 0
IsEnd room limit judged before after (Ok done) = (after ≡ before) × (done.judged ≡ judged) × Ends done.more judged limit after
IsEnd room limit judged before after (Err fault.ReceiveFailed) =
    (judged < limit) × FailsToReceive room before after × (after.counter ≡ counted_as kind.ReceiveFailed before.counter)
IsEnd room limit judged before after (Err fault.CountFull) =
    (judged < limit) × IsFull after.counter
    × ((FailsToReceive room before after × (after.counter ≡ before.counter)) ⊎ ((last : Judged) × IsCutShort room before after last))

-- a batch of at most so many datagrams, received into so much room
pub record IsBatch (room limit : ℕ) (before after : Parts) (result : Result BatchDone BatchFault) : Type 0 where
  pub judged : List Judged
  pub last : Parts
  pub run : IsRun room before last judged
  pub end : IsEnd room limit (length judged) last after result
