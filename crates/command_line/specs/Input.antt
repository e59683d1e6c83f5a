-- The bytes that were read of an input.
use Rattle.std.specs.Prelude.{◌≡◌, ◌++◌, List, None, Option, Some, ℕ}

-- the input has these bytes, if its bytes are known
abbrev pub IsInput : Option (List ℕ) → List ℕ → Type 0
IsInput None bytes = Unit {0}
IsInput (Some known) bytes = bytes ≡ known

-- and begins with these, if its bytes are known
abbrev pub BeginsInput : Option (List ℕ) → List ℕ → Type 0
BeginsInput None bytes = Unit {0}
BeginsInput (Some known) bytes = (rest : List ℕ) × (known ≡ bytes ++ rest)
