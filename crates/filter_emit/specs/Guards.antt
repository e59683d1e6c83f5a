-- Guards: the promise of a function that writes a test after which the code goes on.
use Rattle.std.specs.Prelude.{◌≡◌, ◌++◌, ◌≤◌, [], List, length, ℕ}
use Rattle.filter_emit.specs.declared.fixup.Fixup.{Fixup}
use Rattle.filter_emit.specs.Fixups.{AreOpen, IsLonger, LabelValue}
use Rattle.filter_emit.specs.Pieces.{HasFarJumpsOnly, IsPart, Meaning, Targets}

-- the yes target of code that ends at a place is just there
abbrev pub Next : Targets
Next until on_yes = on_yes ≡ until

-- a guard falls through to the words after it, or goes to the no target
abbrev pub IsGuard : Meaning → ℕ → ℕ → ℕ → List ℕ → List Fixup → Type 0
IsGuard means weight from until code ns = IsPart Next means weight from until code [] ns

-- what a function that writes a guard ensures
pub record Guards (means : Meaning) (weight : ℕ) (before after : List ℕ) (no_old no_new : LabelValue) : Type 0 where
  pub ns : List Fixup
  pub longer : IsLonger before after
  pub no_grows : no_new.fixups ≡ no_old.fixups ++ ns
  pub no_by : no_new.by ≡ no_old.by
  pub guard : IsGuard means weight (length before) (length after) after ns
  pub no_open : AreOpen ns no_old.by after
  pub far_jumps : (last : ℕ) → no_old.by ≤ last → HasFarJumpsOnly last (length before) (length after) after
