-- What contracts see of a device that receives datagrams: the receives that are still to come.
use Rattle.std.specs.Prelude.{◌≡◌, ◌++◌, ◌∷◌, Err, List, None, Ok, Option, Result, Some, [], length, map, option_map, take, ℕ}

-- a receive: a datagram, or a failure
abbrev pub Receive : Type 0
Receive = Option (List ℕ)

-- a receive into a buffer found this, and left these bytes in it; these receives were to come before it, and those are after it
abbrev pub IsNext : {E : Type 0} → List ℕ → Option (Result ℕ E) → List Receive → List Receive → Type 0
IsNext bytes (Some (Ok size)) coming later = (whole : List ℕ) × (coming ≡ Some whole ∷ later) × (take size bytes ≡ take (length bytes) whole)
IsNext bytes (Some (Err fault)) coming later = coming ≡ None ∷ later
IsNext bytes None coming later = later ≡ coming

-- the same, if the receives are known; they are known before and after it, or neither before nor after
abbrev pub GivesReceive : {E : Type 0} → List ℕ → Option (Result ℕ E) → Option (List Receive) → Option (List Receive) → Type 0
GivesReceive bytes found None None = Unit {0}
GivesReceive bytes found None (Some later) = ⊥
GivesReceive bytes found (Some coming) None = ⊥
GivesReceive bytes found (Some coming) (Some later) = IsNext bytes found coming later

-- a receive into a buffer found this, and left these bytes in it; it comes after those that were given before it. They are known
-- before and after it, or neither before nor after
abbrev pub HasGiven : {E : Type 0} → List ℕ → Option (Result ℕ E) → Option (List Receive) → Option (List Receive) → Type 0
HasGiven bytes found None None = Unit {0}
HasGiven bytes found None (Some past) = ⊥
HasGiven bytes found (Some earlier) None = ⊥
HasGiven bytes found (Some earlier) (Some past) = (next : List Receive) × (past ≡ earlier ++ next) × IsNext bytes found next []

-- none is to come, if that is known
abbrev pub IsEnded : Option (List Receive) → Type 0
IsEnded None = Unit {0}
IsEnded (Some coming) = coming ≡ []

-- each datagram cut to a room
abbrev pub cut_to : ℕ → List Receive → List Receive
cut_to room receives = map (option_map (take room)) receives
