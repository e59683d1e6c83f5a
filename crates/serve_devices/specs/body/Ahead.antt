-- What a source still has to give: what it received ahead, then what is to come of its ingress. And what it has given: what its
-- ingress has given, without what was received ahead.
use Rattle.std.specs.Prelude.{◌++◌, ◌-◌, ◌≡◌, ◌∷◌, Err, List, None, Ok, Option, Result, Some, [], length, option_map, take, ℕ}
use Rattle.serve_devices.specs.Ingress.{IsNext, Receive, cut_to}

-- what was received ahead, with its bytes in front of these, comes before the others
abbrev pub with_ahead : {E : Type 0} → List ℕ → Option (Result ℕ E) → List Receive → List Receive
with_ahead bytes (Some (Ok size)) coming = Some (take size bytes) ∷ coming
with_ahead bytes (Some (Err fault)) coming = None ∷ coming
with_ahead bytes None coming = coming

-- what is to come of an ingress; of one that was closed nothing is
abbrev pub coming_in : {I : Type 0} → (I → Option (List Receive)) → Result I (Option (List Receive)) → Option (List Receive)
coming_in coming (Ok ingress) = coming ingress
coming_in coming (Err given) = Some []

-- what an ingress has given, also if it was closed
abbrev pub past_in : {I : Type 0} → (I → Option (List Receive)) → Result I (Option (List Receive)) → Option (List Receive)
past_in past (Ok ingress) = past ingress
past_in past (Err given) = given

-- what is to come after what was received ahead into a room with these bytes
abbrev pub coming_of : {E : Type 0} → List ℕ → Option (Result ℕ E) → Option (List Receive) → Option (List Receive)
coming_of bytes ahead coming = option_map (λ later. cut_to (length bytes) (with_ahead bytes ahead later)) coming

-- the receives of an ingress, without the last one if it was received ahead
abbrev pub without_ahead : {E : Type 0} → Option (Result ℕ E) → List Receive → List Receive
without_ahead (Some found) past = take (length past - 1) past
without_ahead None past = past

-- what was given, of an ingress that gave this, and that received ahead into a room with these bytes
abbrev pub past_of : {E : Type 0} → List ℕ → Option (Result ℕ E) → Option (List Receive) → Option (List Receive)
past_of bytes ahead past = option_map (λ (given : List Receive). cut_to (length bytes) (without_ahead ahead given)) past

-- what was received ahead is the last that the ingress gave
abbrev pub IsLast : {E : Type 0} → List ℕ → Option (Result ℕ E) → Option (List Receive) → Type 0
IsLast bytes (Some found) (Some past) = (earlier last : List Receive) × (past ≡ earlier ++ last) × IsNext bytes (Some found) last []
IsLast bytes (Some found) None = Unit {0}
IsLast bytes None past = Unit {0}

-- what was found, with its bytes in front of these, comes after what was given, if that is known
abbrev pub ComesAfter : {E : Type 0} → List ℕ → Option (Result ℕ E) → Option (List Receive) → Option (List Receive) → Type 0
ComesAfter bytes found before after = after ≡ option_map (λ (past : List Receive). past ++ with_ahead bytes found []) before
