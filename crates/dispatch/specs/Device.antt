-- A source and an outbox as contracts see them: how often it failed and, if they are known, its datagrams.
use Rattle.std.specs.Prelude.{◌≡◌, ◌++◌, ◌∷◌, Err, List, None, Ok, Option, Result, Some, [], map, suc, take, ℕ}
use Rattle.ipv4_fields.specs.declared.endpoint.Endpoint.{Endpoint}

-- a source; `coming` are the datagrams that it still has, and `given` those that it has given, in order, before a buffer cut them
pub record SourceValue : Type 0 where
  pub failures : ℕ
  pub coming : Option (List (List ℕ))
  pub given : Option (List (List ℕ))

-- bytes that were sent to an endpoint
pub record Sent : Type 0 where
  pub to : Endpoint
  pub bytes : List ℕ

-- an outbox; `taken` is what it was sent, in order, without the sends that failed
pub record OutboxValue : Type 0 where
  pub failures : ℕ
  pub taken : Option (List Sent)

-- a call failed exactly if the count of failures grew, by one
abbrev pub CountsFailure : {A E : Type 0} → Result A E → ℕ → ℕ → Type 0
CountsFailure (Ok answer) before after = after ≡ before
CountsFailure (Err fault) before after = after ≡ suc before

-- known datagrams begin with those that were given, each cut to the room for it, and lose them
abbrev pub Gives : ℕ → Option (List (List ℕ)) → Option (List (List ℕ)) → List (List ℕ) → Type 0
Gives room None after given = Unit {0}
Gives room (Some coming) None given = ⊥
Gives room (Some coming) (Some later) given = (whole : List (List ℕ)) × (coming ≡ whole ++ later) × (given ≡ map (take room) whole)

-- these datagrams, each cut to the room, are given after those that were given before. They are known before and after it, or neither
-- before nor after
abbrev pub AreGivenAfter : ℕ → Option (List (List ℕ)) → Option (List (List ℕ)) → List (List ℕ) → Type 0
AreGivenAfter room None None more = Unit {0}
AreGivenAfter room None (Some later) more = ⊥
AreGivenAfter room (Some earlier) None more = ⊥
AreGivenAfter room (Some earlier) (Some later) more = (whole : List (List ℕ)) × (later ≡ earlier ++ whole) × (more ≡ map (take room) whole)

-- the datagrams of a source whose call ended so, and whose buffer then has these bytes
abbrev pub given_in : {E : Type 0} → List ℕ → Result (Option ℕ) E → List (List ℕ)
given_in bytes (Ok (Some size)) = take size bytes ∷ []
given_in bytes (Ok None) = []
given_in bytes (Err fault) = []

-- it has no datagram any more, if its datagrams are known
abbrev pub IsAtEnd : Option (List (List ℕ)) → Type 0
IsAtEnd None = Unit {0}
IsAtEnd (Some coming) = coming ≡ []

-- the log of an outbox, such as that of its sends, is what it was before, and then these; from some call on it may be unknown
abbrev pub Takes : {A : Type 0} → Option (List A) → Option (List A) → List A → Type 0
Takes before None more = Unit {0}
Takes None (Some later) more = ⊥
Takes (Some earlier) (Some later) more = later ≡ earlier ++ more

-- the datagrams that an outbox took whose call ended so
abbrev pub taken_by : {A E : Type 0} → Result A E → Endpoint → List ℕ → List Sent
taken_by (Ok done) to bytes = record { to = to; bytes = bytes } ∷ []
taken_by (Err fault) to bytes = []
