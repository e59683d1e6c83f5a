-- The instruction table (networking/filter.rst, "BPF engine and instruction set"; docs/MACHINE.md, "Instruction table").
use Rattle.std.specs.Prelude.{◌==◌, ◌+◌, ◌∷◌, [], if◌then◌else◌, List, None, Option, Some, ℕ}
use Rattle.bpf_insn.specs.declared.instruction.Insn.{Insn}
use Rattle.bpf_insn.specs.declared.instruction.Insn.TheVariants.{Alu, CopyFromX, CopyToX, Jump, JumpIf, LoadAbsolute, LoadCell, LoadConstant, LoadIndexed, LoadLength, LoadXCell, LoadXConstant, LoadXHeader, LoadXLength, Negate, ReturnA, ReturnConstant, Store, StoreX}
use Rattle.bpf_insn.specs.declared.instruction.Size.TheVariants.{Byte, Half, Word}
use Rattle.bpf_insn.specs.declared.instruction.Operation.TheVariants.{Add, And, Div, Lsh, Mod, Mul, Or, Rsh, Sub, Xor}
use Rattle.bpf_insn.specs.declared.instruction.Operand.TheVariants.{K, X}
use Rattle.bpf_insn.specs.declared.instruction.Test.TheVariants.{CommonBit, Equal, Greater, GreaterOrEqual}
use Rattle.bpf_insn.specs.declared.instruction.Offsets.{Offsets}

-- which of the fields jt, jf and k an instruction uses, and the instruction that they make
pub data Uses : Type 0 where
  uses_none : Insn → Uses
  uses_constant : (ℕ → Insn) → Uses
  uses_jumps : (ℕ → ℕ → Insn) → Uses
  uses_all : (ℕ → ℕ → ℕ → Insn) → Uses

-- an entry of the table
pub record Entry : Type 0 where
  pub code : ℕ
  pub uses : Uses

abbrev pub entry : ℕ → Uses → Entry
entry code uses = record { code = code; uses = uses }

abbrev pub offsets : ℕ → ℕ → Offsets
offsets jt jf = record { jt = jt; jf = jf }

unfoldable pub table : List Entry
table =
    entry 0x20 (uses_constant (λ k. LoadAbsolute Word k))
    ∷ entry 0x28 (uses_constant (λ k. LoadAbsolute Half k))
    ∷ entry 0x30 (uses_constant (λ k. LoadAbsolute Byte k))
    ∷ entry 0x40 (uses_constant (λ k. LoadIndexed Word k))
    ∷ entry 0x48 (uses_constant (λ k. LoadIndexed Half k))
    ∷ entry 0x50 (uses_constant (λ k. LoadIndexed Byte k))
    ∷ entry 0x00 (uses_constant (λ k. LoadConstant k))
    ∷ entry 0x60 (uses_constant (λ k. LoadCell k))
    ∷ entry 0x80 (uses_none LoadLength)
    ∷ entry 0x01 (uses_constant (λ k. LoadXConstant k))
    ∷ entry 0x61 (uses_constant (λ k. LoadXCell k))
    ∷ entry 0x81 (uses_none LoadXLength)
    ∷ entry 0xb1 (uses_constant (λ k. LoadXHeader k))
    ∷ entry 0x02 (uses_constant (λ k. Store k))
    ∷ entry 0x03 (uses_constant (λ k. StoreX k))
    ∷ entry 0x04 (uses_constant (λ k. Alu Add (K k)))
    ∷ entry 0x0c (uses_none (Alu Add X))
    ∷ entry 0x14 (uses_constant (λ k. Alu Sub (K k)))
    ∷ entry 0x1c (uses_none (Alu Sub X))
    ∷ entry 0x24 (uses_constant (λ k. Alu Mul (K k)))
    ∷ entry 0x2c (uses_none (Alu Mul X))
    ∷ entry 0x34 (uses_constant (λ k. Alu Div (K k)))
    ∷ entry 0x3c (uses_none (Alu Div X))
    ∷ entry 0x44 (uses_constant (λ k. Alu Or (K k)))
    ∷ entry 0x4c (uses_none (Alu Or X))
    ∷ entry 0x54 (uses_constant (λ k. Alu And (K k)))
    ∷ entry 0x5c (uses_none (Alu And X))
    ∷ entry 0x64 (uses_constant (λ k. Alu Lsh (K k)))
    ∷ entry 0x6c (uses_none (Alu Lsh X))
    ∷ entry 0x74 (uses_constant (λ k. Alu Rsh (K k)))
    ∷ entry 0x7c (uses_none (Alu Rsh X))
    ∷ entry 0x94 (uses_constant (λ k. Alu Mod (K k)))
    ∷ entry 0x9c (uses_none (Alu Mod X))
    ∷ entry 0xa4 (uses_constant (λ k. Alu Xor (K k)))
    ∷ entry 0xac (uses_none (Alu Xor X))
    ∷ entry 0x84 (uses_none Negate)
    ∷ entry 0x07 (uses_none CopyToX)
    ∷ entry 0x87 (uses_none CopyFromX)
    ∷ entry 0x05 (uses_constant (λ k. Jump k))
    ∷ entry 0x15 (uses_all (λ jt jf k. JumpIf Equal (K k) (offsets jt jf)))
    ∷ entry 0x1d (uses_jumps (λ jt jf. JumpIf Equal X (offsets jt jf)))
    ∷ entry 0x25 (uses_all (λ jt jf k. JumpIf Greater (K k) (offsets jt jf)))
    ∷ entry 0x2d (uses_jumps (λ jt jf. JumpIf Greater X (offsets jt jf)))
    ∷ entry 0x35 (uses_all (λ jt jf k. JumpIf GreaterOrEqual (K k) (offsets jt jf)))
    ∷ entry 0x3d (uses_jumps (λ jt jf. JumpIf GreaterOrEqual X (offsets jt jf)))
    ∷ entry 0x45 (uses_all (λ jt jf k. JumpIf CommonBit (K k) (offsets jt jf)))
    ∷ entry 0x4d (uses_jumps (λ jt jf. JumpIf CommonBit X (offsets jt jf)))
    ∷ entry 0x06 (uses_constant (λ k. ReturnConstant k))
    ∷ entry 0x16 (uses_none ReturnA)
    ∷ []

abbrev pub uses_in : List Entry → ℕ → Option Uses
uses_in [] code = None
uses_in (entry ∷ entries) code = if entry.code == code then Some entry.uses else uses_in entries code

-- the fields that the instruction of a code uses, none if there is no such instruction
unfoldable pub uses_of : ℕ → Option Uses
uses_of code = uses_in table code

-- the sum of the fields that are not used, which must be 0 (this project's rule)
abbrev pub unused_sum : Uses → ℕ → ℕ → ℕ → ℕ
unused_sum (uses_none insn) jt jf k = jt + jf + k
unused_sum (uses_constant insn) jt jf k = jt + jf
unused_sum (uses_jumps insn) jt jf k = k
unused_sum (uses_all insn) jt jf k = 0

-- the instruction that the fields make
abbrev pub instruction_with : Uses → ℕ → ℕ → ℕ → Insn
instruction_with (uses_none insn) jt jf k = insn
instruction_with (uses_constant insn) jt jf k = insn k
instruction_with (uses_jumps insn) jt jf k = insn jt jf
instruction_with (uses_all insn) jt jf k = insn jt jf k
