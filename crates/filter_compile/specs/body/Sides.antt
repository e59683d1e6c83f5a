-- What is known behind a guard, and behind a test that is known.
use Rattle.std.specs.Prelude.{◌≡◌, List, None, Option, Some, ℕ}
use Rattle.filter_emit.specs.Fixups.{LabelValue}
use Rattle.filter_emit.specs.Pieces.{Writes}
use Rattle.filter_emit.specs.Runs.{GoesToYes}
use Rattle.filter_emit.specs.Guards.{Guards}
use Rattle.filter_tree.specs.declared.truth.Truth.{Truth}
use Rattle.filter_facts.specs.declared.known.Known.{Known}
use Rattle.filter_facts.specs.Known.{Holds}
use Rattle.filter_facts.specs.Told.{header_in_x_of, header_of}
use Rattle.filter_compile.specs.declared.sides.Passed.{Passed}
use Rattle.filter_compile.specs.declared.sides.Sides.{Sides}
use Rattle.filter_compile.specs.body.Piece.{Tests}

-- no packet comes there, or the facts hold
abbrev pub HoldsWhere : Option Known → List ℕ → ℕ → ℕ → Type 0
HoldsWhere None packet a x = ⊥
HoldsWhere (Some known) packet a x = Holds known packet a x

-- the same is known of the packet and of X
pub record IsSameButA (known other : Known) : Type 0 where
  pub packet : header_of other ≡ header_of known
  pub x : header_in_x_of other ≡ header_in_x_of known

-- a guard adds its test to those that were passed: behind it the new facts hold, and where it goes to no, or one before it does,
-- the new ones there
pub record Adds (truth : List ℕ → Truth) (weight : ℕ) (before after : List ℕ) (old new : Passed) (no_old no_new : LabelValue) : Type 0 where
  pub guards : Guards (Tests (Holds old.on) (Holds new.on) (HoldsWhere new.no) truth) weight before after no_old no_new
  pub missed : (packet : List ℕ) (a x : ℕ) → HoldsWhere old.no packet a x → HoldsWhere new.no packet a x

-- a word that goes to the label always, and the same is known on both sides
pub record BranchesAlways (known : Known) (sides : Sides) (before after : List ℕ) (old new : LabelValue) : Type 0 where
  pub writes : (other : LabelValue) → Writes GoesToYes 1 before after old new other other
  pub yes : sides.yes ≡ known
  pub no : sides.no ≡ known
