-- What it is to note a jump.
use Rattle.std.specs.Prelude.{◌≡◌, ◌++◌, ◌∷◌, [], Bool, List, false, length, true, ℕ}
use Rattle.bpf_insn.specs.declared.instruction.Insn.TheVariants.{Jump}
use Rattle.filter_emit.specs.declared.fixup.Side.{Side}
use Rattle.filter_emit.specs.declared.fixup.Side.TheVariants.{Always}
use Rattle.filter_emit.specs.Fixups.{IsAppended, LabelValue, fixup_at}

-- a jump of the test at a place was noted at the label; where the label is far, a JA was written and noted
abbrev pub IsNoted : Bool → ℕ → Side → List ℕ → List ℕ → LabelValue → LabelValue → Type 0
IsNoted false place side code later old new = (later ≡ code) × (new.fixups ≡ old.fixups ++ fixup_at place side ∷ [])
IsNoted true place side code later old new = IsAppended (Jump 0) code later × (new.fixups ≡ old.fixups ++ fixup_at (length code) Always ∷ [])
