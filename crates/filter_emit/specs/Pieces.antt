-- Pieces of a program with fixups: their meaning however the fixups are patched, and what a function that writes one ensures.
use Rattle.std.specs.Prelude.{◌≡◌, ◌+◌, ◌++◌, ◌<◌, ◌≤◌, if◌then◌else◌, List, drop, length, nat_lt, ℕ}
use Rattle.bpf_insn.specs.declared.instruction.Insn.{Insn}
use Rattle.bpf_insn.specs.declared.instruction.Insn.TheVariants.{Jump}
use Rattle.bpf_verify.specs.Accepted.{IsFaultless}
use Rattle.bpf_verify.specs.Path.{IsAt}
use Rattle.filter_emit.specs.declared.fixup.Fixup.{Fixup}
use Rattle.filter_emit.specs.Fixups.{AreApart, AreOpen, AreWithin, IsFilled, IsLonger, LabelValue}

-- the relation between the words at the yes target, at the no target and at the beginning of a piece
abbrev pub Meaning : Type 1
Meaning = List ℕ → List ℕ → List ℕ → Type 0

-- the places at which the yes target of code that ends at a place can be
abbrev pub Targets : Type 1
Targets = ℕ → ℕ → Type 0

-- from there on
abbrev pub Behind : Targets
Behind until on_yes = until ≤ on_yes

abbrev pub IsJump : Insn → Type 0
IsJump (Jump k) = Unit {0}
IsJump insn = ⊥

-- the number of words more that a test at a place takes for a label: one if the label can be too far for a jump of the test
abbrev pub far_words : ℕ → ℕ → ℕ
far_words place by = if nat_lt (place + 256) by then 1 else 0

-- each word of these places is an instruction's, of which this is so
abbrev pub AreInstructions : (ℕ → Insn → Type 0) → ℕ → ℕ → List ℕ → Type 0
AreInstructions so from until code = (pc : ℕ) → from ≤ pc → pc < until → (insn : Insn) × IsAt code pc insn × so pc insn

-- from this place, or from one of the two before it that is not before another, the last place is too far for a jump of a test
pub record IsFarFrom (last from pc : ℕ) : Type 0 where
  pub place : ℕ
  pub inside : from ≤ place
  pub before : place ≤ pc
  pub beside : pc ≤ place + 2
  pub far : place + 256 < last

-- a JA is only at places from which the last place is far
abbrev pub HasFarJumpsOnly : ℕ → ℕ → ℕ → List ℕ → Type 0
HasFarJumpsOnly last from until code = AreInstructions (λ pc insn. IsJump insn → IsFarFrom last from pc) from until code

-- a part of the code: however its fixups are patched, it means this, and no place of it has a fault
pub record IsPart (targets : Targets) (means : Meaning) (weight from until : ℕ) (code : List ℕ) (ys ns : List Fixup) : Type 0 where
  pub forward : from ≤ until
  pub light : until ≤ from + weight
  pub yes_within : AreWithin from until ys
  pub no_within : AreWithin from until ns
  pub apart : AreApart ys ns
  pub meant :
      (program : List ℕ) (on_yes on_no : ℕ) → targets until on_yes → until ≤ on_no → on_yes < length program → on_no < length program
      → IsFilled from until code ys ns on_yes on_no program → means (drop on_yes program) (drop on_no program) (drop from program)
  pub sound :
      (program : List ℕ) (on_yes on_no : ℕ) → targets until on_yes → until ≤ on_no → on_yes < length program → on_no < length program
      → IsFilled from until code ys ns on_yes on_no program → (pc : ℕ) → from ≤ pc → pc < until → IsFaultless program pc

-- a piece goes to one of two targets after it
abbrev pub IsPiece : Meaning → ℕ → ℕ → ℕ → List ℕ → List Fixup → List Fixup → Type 0
IsPiece means weight from until code ys ns = IsPart Behind means weight from until code ys ns

-- what a function that writes a piece ensures, of the code before and after and of its two labels before and after
pub record Writes (means : Meaning) (weight : ℕ) (before after : List ℕ) (yes_old yes_new no_old no_new : LabelValue) : Type 0 where
  pub ys : List Fixup
  pub ns : List Fixup
  pub longer : IsLonger before after
  pub yes_grows : yes_new.fixups ≡ yes_old.fixups ++ ys
  pub no_grows : no_new.fixups ≡ no_old.fixups ++ ns
  pub yes_by : yes_new.by ≡ yes_old.by
  pub no_by : no_new.by ≡ no_old.by
  pub piece : IsPiece means weight (length before) (length after) after ys ns
  pub yes_open : AreOpen ys yes_old.by after
  pub no_open : AreOpen ns no_old.by after
  pub far_jumps : (last : ℕ) → yes_old.by ≤ last → no_old.by ≤ last → HasFarJumpsOnly last (length before) (length after) after
