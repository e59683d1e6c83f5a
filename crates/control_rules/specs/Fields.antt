-- The fields of a text.
use Rattle.std.specs.Prelude.{◌==◌, ◌∷◌, List, [], if◌then◌else◌, ℕ}
use Rattle.control_line.specs.Rules.{grow_first}

-- a text cut at each space, which is 32: one field more than there are spaces
abbrev pub fields_in : List ℕ → List (List ℕ)
fields_in [] = [] ∷ []
fields_in (byte ∷ text) = if byte == 32 then [] ∷ fields_in text else grow_first byte (fields_in text)
