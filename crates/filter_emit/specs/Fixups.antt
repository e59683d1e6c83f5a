-- Code with fixups: words of which some jumps are patched later.
use Rattle.std.specs.Prelude.{◌≡◌, ◌+◌, ◌++◌, ◌<◌, ◌≤◌, ◌⊎◌, ◌∷◌, [], Contains, List, None, Ok, Option, Some, length, ℕ}
use Rattle.bpf_insn.specs.Word.{instruction_of}
use Rattle.bpf_insn.specs.declared.instruction.Insn.{Insn}
use Rattle.bpf_insn.specs.declared.instruction.Insn.TheVariants.{Jump, JumpIf}
use Rattle.bpf_insn.specs.Table.{offsets}
use Rattle.bpf_verify.specs.Path.{IsAt}
use Rattle.filter_emit.specs.declared.fixup.Fixup.{Fixup}
use Rattle.filter_emit.specs.declared.fixup.Side.{Side}
use Rattle.filter_emit.specs.declared.fixup.Side.TheVariants.{Always, WhenFalse, WhenTrue}

-- what a contract sees of a label: the jumps that will lead there, and the last place that it can be
pub record LabelValue : Type 0 where
  pub fixups : List Fixup
  pub by : ℕ

-- the number of words that a jump of an instruction skips
abbrev pub offset_of : Side → Insn → Option ℕ
offset_of WhenTrue (JumpIf test operand skips) = Some skips.jt
offset_of WhenFalse (JumpIf test operand skips) = Some skips.jf
offset_of Always (Jump k) = Some k
offset_of _ _ = None

-- an instruction without the lengths of its jumps
abbrev pub shape_of : Insn → Insn
shape_of (JumpIf test operand skips) = JumpIf test operand (offsets 0 0)
shape_of (Jump k) = Jump 0
shape_of insn = insn

-- the jump leads to the place
abbrev pub LeadsTo : List ℕ → ℕ → Side → ℕ → Type 0
LeadsTo program place side to = (insn : Insn) × (k : ℕ) × IsAt program place insn × (offset_of side insn ≡ Some k) × (to ≡ place + 1 + k)

-- each of the fixups leads to the place
abbrev pub AllLeadTo : List Fixup → ℕ → List ℕ → Type 0
AllLeadTo fixups to program = (fixup : Fixup) → Contains fixups fixup → LeadsTo program fixup.place fixup.side to

-- the instruction of the code at pc is in the program, except for its open jumps
abbrev pub StandsAt : (ℕ → Side → Type 0) → List ℕ → List ℕ → ℕ → Type 0
StandsAt waits code program pc = (insn : Insn) → IsAt code pc insn
    → (later : Insn) × IsAt program pc later × (shape_of later ≡ shape_of insn) × ((side : Side) → waits pc side ⊎ (offset_of side later ≡ offset_of side insn))

abbrev pub Stands : (ℕ → Side → Type 0) → ℕ → ℕ → List ℕ → List ℕ → Type 0
Stands waits from until code program = (pc : ℕ) → from ≤ pc → pc < until → StandsAt waits code program pc

-- one of the fixups is this jump
abbrev pub IsFixup : List Fixup → ℕ → Side → Type 0
IsFixup fixups place side = Contains fixups (record { place = place; side = side })

-- the program has the code of these places with its fixups patched
pub record IsFilled (from until : ℕ) (code : List ℕ) (ys ns : List Fixup) (on_yes on_no : ℕ) (program : List ℕ) : Type 0 where
  pub stands : Stands (λ place side. IsFixup ys place side ⊎ IsFixup ns place side) from until code program
  pub yes_filled : AllLeadTo ys on_yes program
  pub no_filled : AllLeadTo ns on_no program

-- the fixups' places are from one place on and below another
abbrev pub AreWithin : ℕ → ℕ → List Fixup → Type 0
AreWithin from until fixups = (fixup : Fixup) → Contains fixups fixup → (from ≤ fixup.place) × (fixup.place < until)

-- no fixup is in both lists
abbrev pub AreApart : List Fixup → List Fixup → Type 0
AreApart ys ns = (fixup : Fixup) → Contains ys fixup → Contains ns fixup → ⊥

-- the instruction at the place has such a jump
abbrev pub HasJump : List ℕ → ℕ → Side → Type 0
HasJump code place side = (insn : Insn) × (k : ℕ) × IsAt code place insn × (offset_of side insn ≡ Some k)

-- a jump from the place can lead there: a test's is short
abbrev pub CanReach : ℕ → Side → ℕ → Type 0
CanReach place Always to = Unit {0}
CanReach place _ to = to ≤ place + 256

-- each of the fixups is a jump of the code, which can lead to each place up to this one
abbrev pub AreOpen : List Fixup → ℕ → List ℕ → Type 0
AreOpen fixups by code = (fixup : Fixup) → Contains fixups fixup → HasJump code fixup.place fixup.side × CanReach fixup.place fixup.side by

-- the fixups of the code are patched with its end, and everything else is unchanged
pub record IsBound (fixups : List Fixup) (code bound : List ℕ) : Type 0 where
  pub same_length : length bound ≡ length code
  pub stands : Stands (λ place side. IsFixup fixups place side) 0 (length code) code bound
  pub filled : AllLeadTo fixups (length code) bound

-- words were written after the others
abbrev pub IsLonger : List ℕ → List ℕ → Type 0
IsLonger code longer = (pc : ℕ) (insn : Insn) → IsAt code pc insn → IsAt longer pc insn

-- one more instruction is at the end
abbrev pub IsAppended : Insn → List ℕ → List ℕ → Type 0
IsAppended insn before after = (word : ℕ) × (instruction_of word ≡ Ok insn) × (after ≡ before ++ word ∷ [])

abbrev pub fixup_at : ℕ → Side → Fixup
fixup_at place side = record { place = place; side = side }
