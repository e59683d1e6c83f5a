-- What contracts see of a stream: the bytes that it gave, and the bytes that it took.
use Rattle.std.specs.Prelude.{◌≡◌, ◌<◌, ◌≤◌, ◌++◌, ◌∷◌, ◌⊎◌, List, None, Option, Some, [], take, ℕ}
use Rattle.std.specs.List.{flat_map}
use Rattle.serve_stream.specs.declared.stream.Arrived.{Arrived}
use Rattle.serve_stream.specs.declared.stream.Arrived.TheVariants as arrived
use Rattle.serve_stream.specs.declared.stream.Sent.{Sent}
use Rattle.serve_stream.specs.declared.stream.Sent.TheVariants as sent

-- one thing that happened: the stream gave bytes, had none to give yet, took bytes or took none yet, a write was interrupted, the client
-- closed its side, or the stream failed
pub data Event : Type 0 where
  gave : (bytes : List ℕ) → Event
  gave_none : Event
  took : (bytes : List ℕ) → Event
  took_none : Event
  interrupted : Event
  ended : Event
  failed : Event

-- the log of a stream is its log before, and then these events; or nothing is known of the stream
abbrev pub Logs : Option (List Event) → Option (List Event) → List Event → Type 0
Logs None later events = Unit {0}
Logs (Some log) None events = ⊥
Logs (Some log) (Some later) events = later ≡ log ++ events

-- no more bytes come than there is room for
abbrev pub IsWithin : ℕ → Arrived → Type 0
IsWithin room (arrived.Bytes count) = count ≤ room
IsWithin room other = Unit {0}

-- no more bytes are taken than there are, and of some bytes at least one
abbrev pub IsWithinSent : ℕ → Sent → Type 0
IsWithinSent bytes (sent.Bytes count) = (count ≤ bytes) × (0 < bytes → 0 < count)
IsWithinSent bytes other = Unit {0}

-- the events of a read that ended so, and whose room then has these bytes
abbrev pub events_of_read : Arrived → List ℕ → List Event
events_of_read (arrived.Bytes count) room = gave (take count room) ∷ []
events_of_read arrived.NotYet room = gave_none ∷ []
events_of_read arrived.Ended room = ended ∷ []
events_of_read arrived.Failed room = failed ∷ []
events_of_read arrived.Interrupted room = []

-- the events of a write of these bytes that ended so
abbrev pub events_of_write : Sent → List ℕ → List Event
events_of_write (sent.Bytes count) bytes = took (take count bytes) ∷ []
events_of_write sent.NotYet bytes = took_none ∷ []
events_of_write sent.Failed bytes = failed ∷ []
events_of_write sent.Interrupted bytes = interrupted ∷ []

abbrev pub bytes_given : Event → List ℕ
bytes_given (gave bytes) = bytes
bytes_given other = []

abbrev pub bytes_taken : Event → List ℕ
bytes_taken (took bytes) = bytes
bytes_taken other = []

-- all bytes that the stream gave
abbrev pub given : List Event → List ℕ
given events = flat_map bytes_given events

-- all bytes that the stream took
abbrev pub taken : List Event → List ℕ
taken events = flat_map bytes_taken events

abbrev pub Happened : Event → List Event → Type 0
Happened event [] = ⊥
Happened event (first ∷ rest) = (first ≡ event) ⊎ Happened event rest
