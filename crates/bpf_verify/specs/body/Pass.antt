-- The knowledge of the pass about the place that it is at, and its sets of scratch cells: numbers in which bit k is for cell k.
use Rattle.std.specs.Prelude.{◌≡◌, ◌∷◌, ◌<◌, ◌^◌, ◌↔◌, Bool, IsTrue, List, None, Ok, Option, Some, [], bit_and, bit_or, length, slice_index, slice_set, ℕ}
use Rattle.std.specs.Int.{bit_at}
use Rattle.bpf_insn.specs.declared.instruction.Insn.{Insn}
use Rattle.bpf_insn.specs.declared.instruction.Insn.TheVariants.{LoadCell, LoadXCell, Store, StoreX}
use Rattle.bpf_insn.specs.Word.{instruction_of}
use Rattle.bpf_verify.specs.declared.TheConstants.{CELLS}
use Rattle.bpf_verify.specs.declared.fault.Fault.{Fault}
use Rattle.bpf_verify.specs.declared.fault.Fault.TheVariants.{Ancillary, BadCell, BadOpcode, BadShift, Empty, JumpOutside, NoReturn, StrayField, TooLong, UnstoredCell, ZeroDivisor}
use Rattle.bpf_verify.specs.Path.{IsAt, IsReturn, successors}
use Rattle.bpf_verify.specs.Accepted.{instruction_fault}

-- the program has this instruction at pc, and it has no fault
abbrev pub IsFaultlessInstruction : List ℕ → ℕ → Insn → Type 0
IsFaultlessInstruction program pc insn = IsAt program pc insn × (instruction_fault (length program) pc insn ≡ None)

-- the fault is one that a word has by itself, and names the place pc
abbrev pub IsFaultAt : ℕ → Fault → Type 0
IsFaultAt pc (BadOpcode q) = q ≡ pc
IsFaultAt pc (StrayField q) = q ≡ pc
IsFaultAt pc (ZeroDivisor q) = q ≡ pc
IsFaultAt pc (BadShift q) = q ≡ pc
IsFaultAt pc (BadCell q) = q ≡ pc
IsFaultAt pc (JumpOutside q) = q ≡ pc
IsFaultAt pc (Ancillary q) = q ≡ pc
IsFaultAt pc Empty = ⊥
IsFaultAt pc TooLong = ⊥
IsFaultAt pc NoReturn = ⊥
IsFaultAt pc (UnstoredCell q) = ⊥

-- the scratch cell of the instruction, if it has one, is one that the machine has
abbrev pub HasCell : Insn → Type 0
HasCell (LoadCell k) = k < CELLS
HasCell (LoadXCell k) = k < CELLS
HasCell (Store k) = k < CELLS
HasCell (StoreX k) = k < CELLS
HasCell _ = Unit {0}

-- the set has the cell that the instruction loads, if it loads one
abbrev pub FindsCell : Insn → ℕ → Type 0
FindsCell (LoadCell k) before = bit_at before k ≡ 1
FindsCell (LoadXCell k) before = bit_at before k ≡ 1
FindsCell _ before = Unit {0}

-- the first place found to load a cell that is not in its set: the one of before, else pc if it does
abbrev pub NotesLoad : Option ℕ → Insn → ℕ → ℕ → Option ℕ → Type 0
NotesLoad (Some place) insn before pc noted = noted ≡ Some place
NotesLoad None insn before pc None = FindsCell insn before
NotesLoad None insn before pc (Some place) = (place ≡ pc) × (¬ FindsCell insn before)

-- the set after the instruction
abbrev pub cells_after : Insn → ℕ → ℕ
cells_after (Store k) before = bit_or before (2 ^ k)
cells_after (StoreX k) before = bit_or before (2 ^ k)
cells_after _ before = before

-- the sets of the places, once a path with the set after reaches one of them, or each of several
abbrev pub joined : ℕ → List ℕ → ℕ → List ℕ
joined after stored to = slice_set stored to (bit_and (slice_index stored to) after)

abbrev pub joined_at : ℕ → List ℕ → List ℕ → List ℕ
joined_at after stored [] = stored
joined_at after stored (to ∷ places) = joined_at after (joined after stored to) places

-- the word is an instruction's without a fault: what the pass makes of it, with the set before it
pub record IsChecked (len pc word before : ℕ) (unstored : Option ℕ) (old new : List ℕ) (noted : Option ℕ) (returns : Bool) : Type 0 where
  pub insn : Insn
  pub read : instruction_of word ≡ Ok insn
  pub faultless : instruction_fault len pc insn ≡ None
  pub notes : NotesLoad unstored insn before pc noted
  pub joins : new ≡ joined_at (cells_after insn before) old (successors insn pc)
  pub tells : IsTrue returns ↔ IsReturn insn
