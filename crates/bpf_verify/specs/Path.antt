-- The successors of instructions, and the paths of jumps through a program (networking/filter.rst, "BPF engine and instruction
-- set"). Targets are exact sums.
use Rattle.std.specs.Prelude.{◌≡◌, ◌+◌, ◌++◌, ◌∷◌, ◌⊎◌, Contains, List, Ok, Some, [], drop, slice_get, take, ℕ}
use Rattle.bpf_insn.specs.declared.instruction.Insn.{Insn}
use Rattle.bpf_insn.specs.declared.instruction.Insn.TheVariants.{Jump, JumpIf, LoadCell, LoadXCell, ReturnA, ReturnConstant, Store, StoreX}
use Rattle.bpf_insn.specs.Word.{instruction_of}

-- the program in a list of words
abbrev pub program_at : List ℕ → ℕ → ℕ → List ℕ
program_at words from len = take len (drop from words)

-- the program has this instruction at pc
abbrev pub IsAt : List ℕ → ℕ → Insn → Type 0
IsAt program pc insn = (word : ℕ) × (slice_get program pc ≡ Some word) × (instruction_of word ≡ Ok insn)

-- the places that may come after the place pc of an instruction
abbrev pub successors : Insn → ℕ → List ℕ
successors (Jump k) pc = (pc + 1 + k) ∷ []
successors (JumpIf test operand offsets) pc = (pc + 1 + offsets.jt) ∷ (pc + 1 + offsets.jf) ∷ []
successors (ReturnConstant k) pc = []
successors ReturnA pc = []
successors _ pc = (pc + 1) ∷ []

-- the program ends with the instruction
abbrev pub IsReturn : Insn → Type 0
IsReturn (ReturnConstant k) = Unit {0}
IsReturn ReturnA = Unit {0}
IsReturn _ = ⊥

-- the instruction stores this scratch cell
abbrev pub Stores : Insn → ℕ → Type 0
Stores (Store k) cell = k ≡ cell
Stores (StoreX k) cell = k ≡ cell
Stores _ cell = ⊥

-- the instruction loads this scratch cell
abbrev pub Loads : Insn → ℕ → Type 0
Loads (LoadCell k) cell = k ≡ cell
Loads (LoadXCell k) cell = k ≡ cell
Loads _ cell = ⊥

-- the place pc stores, or loads, the cell
abbrev pub StoresAt : List ℕ → ℕ → ℕ → Type 0
StoresAt program pc cell = (insn : Insn) × IsAt program pc insn × Stores insn cell

abbrev pub LoadsAt : List ℕ → ℕ → ℕ → Type 0
LoadsAt program pc cell = (insn : Insn) × IsAt program pc insn × Loads insn cell

-- the place to is a successor of the place pc
abbrev pub StepsTo : List ℕ → ℕ → ℕ → Type 0
StepsTo program pc to = (insn : Insn) × IsAt program pc insn × Contains (successors insn pc) to

-- a path that goes on from pc: each place is a successor of the one before
abbrev pub IsPathFrom : List ℕ → ℕ → List ℕ → Type 0
IsPathFrom program pc [] = Unit {0}
IsPathFrom program pc (to ∷ places) = StepsTo program pc to × IsPathFrom program to places

-- a path: it begins at 0, and each place is a successor of the one before
abbrev pub IsPath : List ℕ → List ℕ → Type 0
IsPath program [] = ⊥
IsPath program (pc ∷ places) = (pc ≡ 0) × IsPathFrom program pc places

-- one of the places stores the cell
abbrev pub IsStoredOn : List ℕ → List ℕ → ℕ → Type 0
IsStoredOn program [] cell = ⊥
IsStoredOn program (pc ∷ places) cell = StoresAt program pc cell ⊎ IsStoredOn program places cell

-- on every path to a load at pc, an earlier place stores the cell
abbrev pub IsStoredBefore : List ℕ → ℕ → Type 0
IsStoredBefore program pc =
    (cell : ℕ) → LoadsAt program pc cell → (earlier : List ℕ) → IsPath program (earlier ++ pc ∷ []) → IsStoredOn program earlier cell

-- pc loads a cell, and there is a path to it on which no earlier place stores the cell
abbrev pub IsUnstored : List ℕ → ℕ → Type 0
IsUnstored program pc =
    (cell : ℕ) × LoadsAt program pc cell × ((earlier : List ℕ) × IsPath program (earlier ++ pc ∷ []) × (¬ IsStoredOn program earlier cell))

-- each cell is stored before it is loaded, on every path (this project's rule)
abbrev pub StoresBefore : List ℕ → Type 0
StoresBefore program = (pc : ℕ) → IsStoredBefore program pc
