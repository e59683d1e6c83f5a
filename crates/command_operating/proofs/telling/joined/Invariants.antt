use Rattle.std.proofs.Common.{List, flat_map, length, map, ◌++◌, ◌∷◌, ◌≡◌, ℕ}
use Rattle.std.specs.Prelude.{string_bytes}
use Rattle.command_operating.specs.Telling.{joined}
use Rattle.command_operating.proofs.telling.joined.Given as goal

abbrev pub invariant-loop-left : goal.invariant-loop-left
invariant-loop-left l = string_bytes l.line ++ flat_map (λ (word : List ℕ). 32 ∷ word) (map (λ word. word.now) l.left) ≡ joined (map (λ word. word.now) l.words)

abbrev pub decreases-loop-left : goal.decreases-loop-left
decreases-loop-left l = length l.left
