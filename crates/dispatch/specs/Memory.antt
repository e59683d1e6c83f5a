-- A source and an outbox in memory as contracts see them.
use Rattle.std.specs.Prelude.{◌==◌, ◌-◌, ◌^◌, ◌∷◌, if◌then◌else◌, List, None, Option, Some, [], drop, sum_by, take, ℕ}
use Rattle.dispatch.specs.declared.memory.Extent.{Extent}
use Rattle.dispatch.specs.Device.{OutboxValue, Sent}

-- the sends whose bytes come one after the other
abbrev pub sent_in : List Extent → List ℕ → List Sent
sent_in [] bytes = []
sent_in (first ∷ rest) bytes = record { to = first.to; bytes = take first.len bytes } ∷ sent_in rest (drop first.len bytes)

abbrev pub len_of : List Extent → ℕ
len_of extents = sum_by (λ (extent : Extent). extent.len) extents

-- the sends, and how often one failed
pub record SendsValue : Type 0 where
  pub sent : List Sent
  pub failures : ℕ

-- the failures are counted up to here
abbrev pub MOST_FAILURES : ℕ
MOST_FAILURES = 2 ^ 64 - 1

-- the sends are known as long as it can count another failure
abbrev pub told : SendsValue → Option (List Sent)
told sends = if sends.failures == MOST_FAILURES then None else Some sends.sent

abbrev pub outbox_of : SendsValue → OutboxValue
outbox_of sends = record { failures = sends.failures; taken = told sends }
