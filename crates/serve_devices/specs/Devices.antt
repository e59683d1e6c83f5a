-- What contracts see of the devices of a worker that serves (docs/SWITCH.md, "Devices of a server").
use Rattle.std.specs.Prelude.{◌==◌, ◌-◌, ◌≡◌, ◌≤◌, ◌⊎◌, ◌∷◌, ◌^◌, if◌then◌else◌, Err, List, None, Ok, Option, Result, Some, [], false, filter_map, length, option_map, suc, take, ℕ}
use Rattle.dispatch.specs.Device.{OutboxValue, Sent, SourceValue}
use Rattle.ipv4_fields.specs.declared.endpoint.Endpoint.{Endpoint}
use Rattle.member_counts.specs.Log.{Log, marked_failed, new_log}
use Rattle.serve_devices.specs.Ingress.{HasGiven, IsEnded, Receive}
use Rattle.serve_devices.specs.declared.member_outbox.TheConstants.{LOG_ROOM}
use Rattle.serve_devices.specs.declared.worker_source.TheConstants.{RECEIVE_LIMIT}

-- the source of a worker: how often it failed, the most receives that it still gives, its room for a datagram, and, if they are
-- known, the receives to come and those that it has given
pub record WorkerSourceValue : Type 0 where
  pub failures : ℕ
  pub left : ℕ
  pub room : ℕ
  pub coming : Option (List Receive)
  pub past : Option (List Receive)

-- one that gave none yet, of an ingress that gave these
abbrev pub new_source : ℕ → Option (List Receive) → Option (List Receive) → WorkerSourceValue
new_source room coming past = record { failures = 0; left = RECEIVE_LIMIT; room = room; coming = coming; past = past }

-- the receive that was given is no longer to come: a datagram, cut to the buffer with these bytes, or a failure. At the end none
-- is to come, and none was, except those above the limit
abbrev pub GivesNext : {E : Type 0} → List ℕ → Result (Option ℕ) E → WorkerSourceValue → WorkerSourceValue → Type 0
GivesNext bytes (Ok (Some size)) before after =
    (whole : List ℕ) × (before.coming ≡ option_map (λ (later : List Receive). Some whole ∷ later) after.coming)
    × (take size bytes ≡ take (length bytes) whole)
GivesNext bytes (Ok None) before after = (after.coming ≡ Some []) × ((before.left ≡ 0) ⊎ IsEnded before.coming)
GivesNext bytes (Err fault) before after = before.coming ≡ option_map (λ (later : List Receive). None ∷ later) after.coming

-- the receive that was given comes after those that were given before: a datagram, cut to the buffer with these bytes, or a failure.
-- At the end nothing changes
abbrev pub GivesAfter : {E : Type 0} → List ℕ → Result (Option ℕ) E → Option (List Receive) → Option (List Receive) → Type 0
GivesAfter {E} bytes (Ok (Some size)) before after = HasGiven {E = E} bytes (Some (Ok size)) before after
GivesAfter bytes (Ok None) before after = after ≡ before
GivesAfter bytes (Err fault) before after = HasGiven bytes (Some (Err fault)) before after

-- the datagrams of this many first receives
abbrev pub datagrams_of : ℕ → List Receive → List (List ℕ)
datagrams_of left receives = filter_map (λ (receive : Receive). receive) (take left receives)

-- the datagrams of all of them
abbrev pub all_datagrams : List Receive → List (List ℕ)
all_datagrams receives = filter_map (λ (receive : Receive). receive) receives

-- as a source it has the datagrams of the receives that are left, and has given those of the receives that it gave
abbrev pub source_of : WorkerSourceValue → SourceValue
source_of source =
    record { failures = source.failures; coming = option_map (datagrams_of source.left) source.coming; given = option_map all_datagrams source.past }

-- a receive that is given is one of those that were left, and at the end none is left
abbrev pub CountsReceive : {E : Type 0} → Result (Option ℕ) E → ℕ → ℕ → Type 0
CountsReceive (Ok (Some size)) before after = before ≡ suc after
CountsReceive (Ok None) before after = after ≡ 0
CountsReceive (Err fault) before after = before ≡ suc after

-- failures are counted up to here
abbrev pub MOST_FAILURES : ℕ
MOST_FAILURES = 2 ^ 64 - 1

-- an outbox that failed this often. Once it cannot count another failure, it no longer shows what was sent
abbrev pub outbox_with : ℕ → Option (List Sent) → OutboxValue
outbox_with failures taken = record { failures = failures; taken = if failures == MOST_FAILURES then None else taken }

-- the egress was called once, if the number of its calls is known; from some call on it may be unknown
abbrev pub CountsCall : Option ℕ → Option ℕ → Type 0
CountsCall before None = Unit {0}
CountsCall None (Some after) = ⊥
CountsCall (Some before) (Some after) = after ≡ suc before

-- the datagrams that an egress took whole, whose call took this many bytes
abbrev pub whole_of : {E : Type 0} → Result ℕ E → Endpoint → List ℕ → List Sent
whole_of (Ok size) to bytes = if size == length bytes then record { to = to; bytes = bytes } ∷ [] else []
whole_of (Err fault) to bytes = []

-- an outbox over an egress: the outbox, and how often the egress was called, if that is known
pub record SocketOutboxValue : Type 0 where
  pub outbox : OutboxValue
  pub calls : Option ℕ

-- an outbox that counts by member: how often it failed, what was sent, and what it has not handed on
pub record MemberOutboxValue : Type 0 where
  pub outbox : OutboxValue
  pub log : Log

-- a log that is handed on keeps its key
abbrev pub emptied : Log → Log
emptied log = record { entries = []; room = LOG_ROOM; sent = false; kept = log.kept }

abbrev pub new_outbox : Option (List Sent) → MemberOutboxValue
new_outbox taken = record { outbox = outbox_with 0 taken; log = new_log LOG_ROOM }

-- a send that fails is marked in the log
abbrev pub after_send : {A E : Type 0} → Result A E → Log → Log
after_send (Ok done) log = log
after_send (Err fault) log = marked_failed log

-- the log stays as it was; or it was full, and was handed on
abbrev pub MakesRoom : Log → Log → Type 0
MakesRoom log log' = (log' ≡ log) ⊎ ((LOG_ROOM ≤ length log.entries) × (log' ≡ emptied log))

-- after that something was logged
abbrev pub Logs : (Log → Log) → Log → Log → Type 0
Logs logged log log' = (room : Log) × MakesRoom log room × (log' ≡ logged room)
