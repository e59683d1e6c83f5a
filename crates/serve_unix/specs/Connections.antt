-- What contracts see of connections: those that were accepted, those that are watched, and the events on the streams of those
-- that were closed.
use Rattle.std.specs.Prelude.{◌≡◌, ◌++◌, ◌∷◌, Bool, List, None, Option, Some, [], false, true, ℕ}
use Rattle.serve_stream.specs.Stream.{Event}
use Rattle.serve_unix.specs.declared.connections.Accepted.{Accepted}
use Rattle.serve_unix.specs.declared.connections.Accepted.TheVariants.{Client, Interrupted, NotYet}

-- One thing that happened: a client was accepted, the call was interrupted, or nobody waited; a client's events go to a place from now on,
-- or that failed; a connection was closed, on whose stream this had happened.
pub data Connection : Type 0 where
  accepted : Connection
  interrupted : Connection
  nobody_waited : Connection
  watched : (place : ℕ) → Connection
  not_watched : (place : ℕ) → Connection
  closed : (log : Option (List Event)) → Connection

-- the log of connections is the log before, and then these; or nothing is known of them
abbrev pub Tells : Option (List Connection) → Option (List Connection) → List Connection → Type 0
Tells None later connections = Unit {0}
Tells (Some log) None connections = ⊥
Tells (Some log) (Some later) connections = later ≡ log ++ connections

abbrev pub accepted_by : {S : Type 0} → Accepted S → List Connection
accepted_by (Client stream) = accepted ∷ []
accepted_by Interrupted = interrupted ∷ []
accepted_by NotYet = nobody_waited ∷ []

abbrev pub watched_by : Bool → ℕ → List Connection
watched_by true place = watched place ∷ []
watched_by false place = not_watched place ∷ []

-- nothing has happened on a stream, as far as that is known
abbrev pub IsUntouched : Option (List Event) → Type 0
IsUntouched None = Unit {0}
IsUntouched (Some log) = log ≡ []

abbrev pub IsNewClient : {S : Type 0} → (S → Option (List Event)) → Accepted S → Type 0
IsNewClient log (Client stream) = IsUntouched (log stream)
IsNewClient log Interrupted = Unit {0}
IsNewClient log NotYet = Unit {0}
