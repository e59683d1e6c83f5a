-- The order in which a command takes workers (docs/INTERNALS.md, "Which worker is taken first").
use Rattle.std.specs.Prelude.{◌≡◌, ◌∷◌, [], List, Some, map, reverse, slice_get, ℕ}

-- The workers by the order in which `pop` takes them. Read words are eight apart from each other, and from `current`, in each line; the
-- last line has those beside `current`.
abbrev pub taken_in_order : List ℕ
taken_in_order =
    7 ∷ 15 ∷ 23 ∷ 31 ∷ 39 ∷ 47 ∷ 55 ∷ 63 ∷
    14 ∷ 22 ∷ 30 ∷ 38 ∷ 46 ∷ 54 ∷ 62 ∷
    13 ∷ 21 ∷ 29 ∷ 37 ∷ 45 ∷ 53 ∷ 61 ∷
    12 ∷ 20 ∷ 28 ∷ 36 ∷ 44 ∷ 52 ∷ 60 ∷
    11 ∷ 19 ∷ 27 ∷ 35 ∷ 43 ∷ 51 ∷ 59 ∷
    10 ∷ 18 ∷ 26 ∷ 34 ∷ 42 ∷ 50 ∷ 58 ∷
    9 ∷ 17 ∷ 25 ∷ 33 ∷ 41 ∷ 49 ∷ 57 ∷
    8 ∷ 16 ∷ 24 ∷ 32 ∷ 40 ∷ 48 ∷ 56 ∷
    6 ∷ 5 ∷ 4 ∷ 3 ∷ 2 ∷ 1 ∷ 0 ∷ []

-- a list of workers is in this order; `pop` takes the last one
abbrev pub IsSpread : {W : Type 0} → List W → List W → Type 0
IsSpread workers spread = map Some (reverse spread) ≡ map (λ worker. slice_get workers worker) taken_in_order
