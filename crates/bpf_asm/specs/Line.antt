-- The lines of an assembly text (docs/MACHINE.md, "Assembly text").
use Rattle.std.specs.Prelude.{◌==◌, ◌∷◌, ◌||◌, Bool, List, [], if◌then◌else◌, ℕ}

-- LF and `;` end a line
abbrev pub ends_line : ℕ → Bool
ends_line b = (b == 10) || (b == 59)

-- the lines with one more byte at the front of the first
abbrev pub with_front : ℕ → List (List ℕ) → List (List ℕ)
with_front b [] = (b ∷ []) ∷ []
with_front b (line ∷ lines) = (b ∷ line) ∷ lines

-- a text cut at each LF and each `;`: one line more than there are cuts
abbrev pub lines_of : List ℕ → List (List ℕ)
lines_of [] = [] ∷ []
lines_of (b ∷ text) = if ends_line b then [] ∷ lines_of text else with_front b (lines_of text)
