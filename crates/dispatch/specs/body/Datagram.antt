-- The handling of one datagram.
use Rattle.std.specs.Prelude.{◌≡◌, ◌+◌, ◌∷◌, ◌≤◌, Bool, List, Option, [], length, suc, ℕ}
use Rattle.read_section.specs.Worker.{WorkerValue}
use Rattle.packet_verdict.specs.declared.kind.Kind.TheVariants as kind
use Rattle.packet_verdict.specs.declared.verdict.Verdict.{Verdict}
use Rattle.packet_verdict.specs.declared.verdict.Verdict.TheVariants.{Deliver, Dropped, Malformed, NoGroup, NoMembers}
use Rattle.dispatch.specs.Batch.{IsFull, IsJudged, Judged, counted_but_last, counted_for, counted_if, delivery, one_if, sent_of, sent_unless}
use Rattle.dispatch.specs.Device.{OutboxValue, Takes}
use Rattle.dispatch.specs.Tally.{CounterValue}
use Rattle.dispatch.specs.Told.{Told, failure_told, send_failed, told_of, told_of_last}

-- a verdict delivers no more bytes than there are
abbrev pub KeepsNoMore : Verdict → List ℕ → Type 0
KeepsNoMore (Deliver group member to bytes) packet = bytes ≤ length packet
KeepsNoMore Malformed packet = Unit {0}
KeepsNoMore NoGroup packet = Unit {0}
KeepsNoMore NoMembers packet = Unit {0}
KeepsNoMore (Dropped group member) packet = Unit {0}

-- the packet was judged in one whole section, and by the section's version, whatever happens to its send
abbrev pub JudgesInSection : WorkerValue → WorkerValue → List ℕ → Verdict → Type 0
JudgesInSection before after packet verdict =
    (inside : WorkerValue) × ((failed : Bool) → IsJudged before (record { packet = packet; inside = inside; after = after; verdict = verdict; failed = failed }))

-- the bytes to be delivered were sent, or the send failed and was counted
pub record IsDelivered (verdict : Verdict) (packet : List ℕ) (counter counter' : CounterValue) (outbox outbox' : OutboxValue)
    (told told' : Option (List Told)) : Type 0 where
  pub failed : Bool
  pub sent_once : Takes outbox.taken outbox'.taken (sent_unless failed (delivery verdict packet))
  pub counted_once : counter' ≡ counted_if failed kind.SendFailed counter
  pub outbox_failures : outbox'.failures ≡ one_if failed + outbox.failures
  pub told_once : Takes told told' (failure_told failed)

-- it failed, and could not be counted
pub record IsUndelivered (counter counter' : CounterValue) (outbox outbox' : OutboxValue) (told told' : Option (List Told)) : Type 0 where
  pub full : IsFull counter
  pub counter_kept : counter' ≡ counter
  pub sent_nothing : Takes outbox.taken outbox'.taken []
  pub one_failure : outbox'.failures ≡ suc outbox.failures
  pub told_once : Takes told told' (send_failed ∷ [])

-- it was judged, its verdict was counted, and it was delivered
pub record IsHandled (worker worker' : WorkerValue) (counter counter' : CounterValue) (outbox outbox' : OutboxValue)
    (told told' : Option (List Told)) (packet : List ℕ) : Type 0 where
  pub judged : Judged
  pub packet_is : judged.packet ≡ packet
  pub own_section : IsJudged worker judged
  pub after : worker' ≡ judged.after
  pub counted_once : counter' ≡ counted_for judged counter
  pub sent_once : Takes outbox.taken outbox'.taken (sent_of judged)
  pub outbox_failures : outbox'.failures ≡ one_if judged.failed + outbox.failures
  pub told_once : Takes told told' (told_of judged)

-- it was judged, but its verdict could not be counted, or its failed send
pub record IsNotCounted (worker worker' : WorkerValue) (counter counter' : CounterValue) (outbox outbox' : OutboxValue)
    (told told' : Option (List Told)) (packet : List ℕ) : Type 0 where
  pub judged : Judged
  pub packet_is : judged.packet ≡ packet
  pub own_section : IsJudged worker judged
  pub after : worker' ≡ judged.after
  pub full : IsFull counter'
  pub counted_before : counter' ≡ counted_but_last judged counter
  pub sent_nothing : Takes outbox.taken outbox'.taken []
  pub outbox_failures : outbox'.failures ≡ one_if judged.failed + outbox.failures
  pub told_once : Takes told told' (told_of_last judged)
