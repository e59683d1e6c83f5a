-- When a version is reclaimed: at the first fill of its words after it was replaced.
use Rattle.std.specs.Prelude.{◌⊎◌, ◌∷◌, List, [], ℕ}
use Rattle.versions.specs.declared.step.Step.TheVariants.{Fill}
use Rattle.versions.specs.declared.step.Event.{Event}
use Rattle.versions.specs.declared.step.Event.TheVariants.{Stepped}
use Rattle.versions.specs.Layout.{Shape}
use Rattle.versions.specs.Free.{IsReplaced}
use Rattle.versions.specs.State.{IsWordOf, State, state_after}

module _ {C : Type 0} (shape : Shape C) where
  -- the event fills a word of version n, which is replaced
  abbrev pub Reclaims : State C → ℕ → Event C → Type 0
  Reclaims state n (Stepped (Fill place word) x) = IsReplaced n state.operator.log × IsWordOf shape state n place
  Reclaims state n _ = ⊥

  -- version n is reclaimed in the trace from its first such fill on
  abbrev pub IsReclaimed : State C → List (Event C) → ℕ → Type 0
  IsReclaimed start [] n = ⊥
  IsReclaimed start (newest ∷ older) n = IsReclaimed start older n ⊎ Reclaims (state_after shape start older) n newest
