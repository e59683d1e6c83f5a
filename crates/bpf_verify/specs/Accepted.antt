-- When a list of words is a program (networking/filter.rst, "BPF engine and instruction set"; docs/MACHINE.md,
-- "Verifier").
use Rattle.std.specs.Prelude.{◌≡◌, ◌==◌, ◌-◌, ◌<◌, ◌≤◌, if◌then◌else◌, Err, List, None, Ok, Option, Result, Some, length, nat_lt, slice_get, ℕ}
use Rattle.std.specs.List.{list_all}
use Rattle.bpf_insn.specs.declared.instruction.Insn.{Insn}
use Rattle.bpf_insn.specs.declared.instruction.Insn.TheVariants.{Alu, Jump, JumpIf, LoadAbsolute, LoadCell, LoadXCell, Store, StoreX}
use Rattle.bpf_insn.specs.declared.instruction.Operation.{Operation}
use Rattle.bpf_insn.specs.declared.instruction.Operation.TheVariants.{Div, Lsh, Mod, Rsh}
use Rattle.bpf_insn.specs.declared.instruction.Operand.{Operand}
use Rattle.bpf_insn.specs.declared.instruction.Operand.TheVariants.{K, X}
use Rattle.bpf_insn.specs.declared.instruction.WordFault.{WordFault}
use Rattle.bpf_insn.specs.declared.instruction.WordFault.TheVariants as word_fault_of
use Rattle.bpf_insn.specs.Word.{instruction_of}
use Rattle.bpf_verify.specs.declared.TheConstants.{ANCILLARY_FROM, CELLS, MAX_INSTRUCTIONS}
use Rattle.bpf_verify.specs.declared.fault.Fault.{Fault}
use Rattle.bpf_verify.specs.declared.fault.Fault.TheVariants.{Ancillary, BadCell, BadOpcode, BadShift, JumpOutside, StrayField, ZeroDivisor}
use Rattle.bpf_verify.specs.Path.{IsAt, IsReturn, StoresBefore, successors}

-- from this k on, an absolute load names ancillary data or a negative offset of the kernel's
abbrev pub absolute_fault : ℕ → ℕ → Option Fault
absolute_fault pc k = if nat_lt k ANCILLARY_FROM then None else Some (Ancillary pc)

-- each target of a jump is a place of the program
abbrev pub targets_fault : ℕ → ℕ → List ℕ → Option Fault
targets_fault len pc targets = if list_all (λ to. nat_lt to len) targets then None else Some (JumpOutside pc)

-- a scratch cell is one of those that the machine has
abbrev pub cell_fault : ℕ → ℕ → Option Fault
cell_fault pc k = if nat_lt k CELLS then None else Some (BadCell pc)

abbrev pub divisor_fault : ℕ → ℕ → Option Fault
divisor_fault pc k = if k == 0 then Some (ZeroDivisor pc) else None

abbrev pub shift_fault : ℕ → ℕ → Option Fault
shift_fault pc k = if nat_lt k 32 then None else Some (BadShift pc)

-- the fault of an operation on a constant
abbrev pub constant_fault : ℕ → Operation → ℕ → Option Fault
constant_fault pc Div k = divisor_fault pc k
constant_fault pc Mod k = divisor_fault pc k
constant_fault pc Lsh k = shift_fault pc k
constant_fault pc Rsh k = shift_fault pc k
constant_fault pc _ k = None

abbrev pub operand_fault : ℕ → Operation → Operand → Option Fault
operand_fault pc operation (K k) = constant_fault pc operation k
operand_fault pc operation X = None

-- the fault of an instruction at pc of a program of len instructions
abbrev pub instruction_fault : ℕ → ℕ → Insn → Option Fault
instruction_fault len pc (LoadAbsolute size k) = absolute_fault pc k
instruction_fault len pc (LoadCell k) = cell_fault pc k
instruction_fault len pc (LoadXCell k) = cell_fault pc k
instruction_fault len pc (Store k) = cell_fault pc k
instruction_fault len pc (StoreX k) = cell_fault pc k
instruction_fault len pc (Alu operation operand) = operand_fault pc operation operand
instruction_fault len pc (Jump k) = targets_fault len pc (successors (Jump k) pc)
instruction_fault len pc (JumpIf test operand offsets) = targets_fault len pc (successors (JumpIf test operand offsets) pc)
instruction_fault len pc _ = None

-- the fault of a word, by what it is read as
abbrev pub word_fault : ℕ → ℕ → Result Insn WordFault → Option Fault
word_fault len pc (Err word_fault_of.BadOpcode) = Some (BadOpcode pc)
word_fault len pc (Err word_fault_of.StrayField) = Some (StrayField pc)
word_fault len pc (Ok insn) = instruction_fault len pc insn

-- the program has a word at pc, and this is the fault that it has by itself
abbrev pub HasFault : List ℕ → ℕ → Fault → Type 0
HasFault program pc fault =
    (word : ℕ) × (slice_get program pc ≡ Some word) × (word_fault (length program) pc (instruction_of word) ≡ Some fault)

-- the program has a word at pc, and it is an instruction's without a fault
abbrev pub IsFaultless : List ℕ → ℕ → Type 0
IsFaultless program pc =
    (word : ℕ) × (slice_get program pc ≡ Some word) × (word_fault (length program) pc (instruction_of word) ≡ None)

-- the words below n have no fault
abbrev pub IsFaultlessBelow : List ℕ → ℕ → Type 0
IsFaultlessBelow program n = (pc : ℕ) → pc < n → IsFaultless program pc

-- the last instruction is a return
abbrev pub EndsInReturn : List ℕ → Type 0
EndsInReturn program = (insn : Insn) × IsAt program (length program - 1) insn × IsReturn insn

-- the program never gets stuck: since its words are read without a fault, they are words of instructions
-- (`bpf_insn::instruction_words`)
pub record IsAccepted (program : List ℕ) : Type 0 where
  pub not_empty : 0 < length program
  pub not_too_long : length program ≤ MAX_INSTRUCTIONS
  pub faultless : IsFaultlessBelow program (length program)
  pub ends_in_return : EndsInReturn program
  pub stores_before : StoresBefore program
