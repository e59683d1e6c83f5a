-- Paths through a program, and the places that a path comes to without a store of a cell.
use Rattle.std.proofs.Common.{◌≡◌, ◌<◌, ◌++◌, ◌∷◌, ◌⊎◌, List, [], arith, inl, inr, refl, subst, sym, ℕ}
use Rattle.std.proofs.lemmas.Bool.{cases_eq}
use Rattle.bpf_insn.specs.declared.instruction.Insn.{Insn}
use Rattle.bpf_insn.specs.declared.instruction.Insn.TheVariants.{Store, StoreX}
use Rattle.bpf_verify.specs.Path.{IsPath, IsPathFrom, IsStoredOn, StepsTo, Stores, StoresAt}
use Rattle.bpf_verify.proofs.PlaceLemmas.{IsAt-unique, successors_forward}

-- ---- a path goes on at a successor

IsPathFrom-append : (program : List ℕ) (first : ℕ) (places : List ℕ) (pc to : ℕ) → IsPathFrom program first (places ++ pc ∷ []) → StepsTo program pc to → IsPathFrom program first ((places ++ pc ∷ []) ++ to ∷ [])
IsPathFrom-append program first [] pc to path step = (path.0, (step, tt))
IsPathFrom-append program first (q ∷ places) pc to path step = (path.0, IsPathFrom-append program q places pc to path.1 step)

pub IsPath-append : (program places : List ℕ) (pc to : ℕ) → IsPath program (places ++ pc ∷ []) → StepsTo program pc to → IsPath program ((places ++ pc ∷ []) ++ to ∷ [])
IsPath-append program [] pc to path step = (path.0, (step, tt))
IsPath-append program (q ∷ places) pc to path step = (path.0, IsPathFrom-append program q places pc to path.1 step)

IsStoredOn-append : (program places : List ℕ) (pc cell : ℕ) → IsStoredOn program (places ++ pc ∷ []) cell → IsStoredOn program places cell ⊎ StoresAt program pc cell
IsStoredOn-append program [] pc cell (inl here) = inr here
IsStoredOn-append program [] pc cell (inr none) = absurd none
IsStoredOn-append program (q ∷ places) pc cell (inl first) = inl (inl first)
IsStoredOn-append program (q ∷ places) pc cell (inr more) = elim (IsStoredOn-append program places pc cell more) [
  | inl earlier ↦ inl (inr earlier)
  | inr here ↦ inr here
]

-- ---- paths without a store of the cell

-- a path comes to the place, and no place before it stores the cell
pub data Reaches (program : List ℕ) (cell : ℕ) : ℕ → Type 0 where
  start : Reaches program cell 0
  step : {pc to : ℕ} → Reaches program cell pc → (¬ StoresAt program pc cell) → StepsTo program pc to → Reaches program cell to

pub path_of : (program : List ℕ) (cell to : ℕ) → Reaches program cell to → (earlier : List ℕ) × IsPath program (earlier ++ to ∷ []) × (¬ IsStoredOn program earlier cell)
path_of program cell to start = ([], (refl, tt), λ none. none)
path_of program cell to (step {pc} reached keeps steps) =
    let path = path_of program cell pc reached in (
      path.0 ++ pc ∷ [],
      IsPath-append program path.0 pc to path.1 steps,
      λ on. elim (IsStoredOn-append program path.0 pc cell on) [ inl earlier ↦ path.2 earlier | inr here ↦ keeps here ],
    )

stores_or_not : (insn : Insn) (cell : ℕ) → Stores insn cell ⊎ (¬ Stores insn cell)
stores_or_not (Store k) cell = cases_eq k cell
stores_or_not (StoreX k) cell = cases_eq k cell
stores_or_not _ cell = inr (λ stores. stores)

module _ (program : List ℕ) (cell : ℕ) where
  step_or_store : (pc to : ℕ) → Reaches program cell pc → StepsTo program pc to → StoresAt program pc cell ⊎ Reaches program cell to
  step_or_store pc to reached steps = elim (stores_or_not steps.0 cell) [
    | inl stores ↦ inl (steps.0, steps.1, stores)
    | inr keeps ↦ inr (step reached (λ s. keeps (subst (λ insn. Stores insn cell) (IsAt-unique program pc s.0 steps.0 s.1 steps.1) s.2)) steps)
  ]

  path_from_stores_or_reaches : (pc : ℕ) (places : List ℕ) (to : ℕ) → Reaches program cell pc → IsPathFrom program pc (places ++ to ∷ []) → IsStoredOn program (pc ∷ places) cell ⊎ Reaches program cell to
  path_from_stores_or_reaches pc [] to reached path = elim (step_or_store pc to reached path.0) [ inl here ↦ inl (inl here) | inr on ↦ inr on ]
  path_from_stores_or_reaches pc (q ∷ places) to reached path = elim (step_or_store pc q reached path.0) [
    | inl here ↦ inl (inl here)
    | inr on ↦ elim (path_from_stores_or_reaches q places to on path.1) [ inl later ↦ inl (inr later) | inr end ↦ inr end ]
  ]

  -- a place of the path stores the cell, or the path shows that its end is reached without a store
  pub path_stores_or_reaches : (earlier : List ℕ) (to : ℕ) → IsPath program (earlier ++ to ∷ []) → IsStoredOn program earlier cell ⊎ Reaches program cell to
  path_stores_or_reaches [] to path = inr (subst (Reaches program cell) (sym path.0) start)
  path_stores_or_reaches (q ∷ earlier) to path =
      path_from_stores_or_reaches q earlier to (subst (Reaches program cell) (sym path.0) start) path.1

-- ---- reached by a step from below n

pub record Arrives (program : List ℕ) (cell n to : ℕ) : Type 0 where
  pub place : ℕ
  pub below : place < n
  pub reached : Reaches program cell place
  pub keeps : ¬ StoresAt program place cell
  pub steps : StepsTo program place to

abbrev pub ReachesBelow : List ℕ → ℕ → ℕ → ℕ → Type 0
ReachesBelow program cell n to = (to ≡ 0) ⊎ Arrives program cell n to

pub below_reaches : (program : List ℕ) (cell n to : ℕ) → ReachesBelow program cell n to → Reaches program cell to
below_reaches program cell n to (inl first) = subst (Reaches program cell) (sym first) start
below_reaches program cell n to (inr last) = step last.reached last.keeps last.steps

-- steps lead on, so that a place is reached from below itself
pub reaches_below : (program : List ℕ) (cell to : ℕ) → Reaches program cell to → ReachesBelow program cell to to
reaches_below program cell to start = inl refl
reaches_below program cell to (step {pc} reached keeps steps) =
    inr (record { place = pc; below = successors_forward steps.0 pc to steps.2; reached = reached; keeps = keeps; steps = steps })

pub nothing_arrives : (program : List ℕ) (cell to : ℕ) → (to ≡ 0 → ⊥) → ¬ ReachesBelow program cell 0 to
nothing_arrives program cell to other (inl first) = other first
nothing_arrives program cell to other (inr last) = let below = last.below in absurd (omega arith)
