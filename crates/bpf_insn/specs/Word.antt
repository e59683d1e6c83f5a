-- The words of instructions: from the highest bit on 16 bits of code, 8 of jt, 8 of jf and 32 of k
-- (the fields of networking/filter.rst, "Structure"; their order in a word is this project's).
use Rattle.std.specs.Prelude.{◌≡◌, ◌==◌, ◌+◌, ◌*◌, ◌/◌, ◌%◌, ◌^◌, ◌<◌, if◌then◌else◌, Err, IsOk, None, Ok, Option, Result, Some, ◌↔◌, ℕ}
use Rattle.bpf_insn.specs.declared.instruction.Insn.{Insn}
use Rattle.bpf_insn.specs.declared.instruction.Insn.TheVariants.{Alu, CopyFromX, CopyToX, Jump, JumpIf, LoadAbsolute, LoadCell, LoadConstant, LoadIndexed, LoadLength, LoadXCell, LoadXConstant, LoadXHeader, LoadXLength, Negate, ReturnA, ReturnConstant, Store, StoreX}
use Rattle.bpf_insn.specs.declared.instruction.Size.TheVariants.{Byte, Half, Word}
use Rattle.bpf_insn.specs.declared.instruction.Operation.TheVariants.{Add, And, Div, Lsh, Mod, Mul, Or, Rsh, Sub, Xor}
use Rattle.bpf_insn.specs.declared.instruction.Operand.TheVariants.{K, X}
use Rattle.bpf_insn.specs.declared.instruction.Test.TheVariants.{CommonBit, Equal, Greater, GreaterOrEqual}
use Rattle.bpf_insn.specs.declared.instruction.Size.{Size}
use Rattle.bpf_insn.specs.declared.instruction.Operation.{Operation}
use Rattle.bpf_insn.specs.declared.instruction.Operand.{Operand}
use Rattle.bpf_insn.specs.declared.instruction.Test.{Test}
use Rattle.bpf_insn.specs.declared.instruction.WordFault.{WordFault}
use Rattle.bpf_insn.specs.declared.instruction.WordFault.TheVariants.{BadOpcode, StrayField}
use Rattle.bpf_insn.specs.Table.{Uses, instruction_with, unused_sum, uses_of}

-- the word of four fields
abbrev pub word : ℕ → ℕ → ℕ → ℕ → ℕ
word code jt jf k = code * 2 ^ 48 + jt * 2 ^ 40 + jf * 2 ^ 32 + k

-- the fields of a word
abbrev pub code_of : ℕ → ℕ
code_of w = w / 2 ^ 48

abbrev pub true_jump_of : ℕ → ℕ
true_jump_of w = w / 2 ^ 40 % 2 ^ 8

abbrev pub false_jump_of : ℕ → ℕ
false_jump_of w = w / 2 ^ 32 % 2 ^ 8

abbrev pub constant_of : ℕ → ℕ
constant_of w = w % 2 ^ 32

-- the words of instructions: of a code of the table, and of fields in their ranges of which those that are not used are 0
pub record IsInstructionWord (w : ℕ) : Type 0 where
  pub code : ℕ
  pub jt : ℕ
  pub jf : ℕ
  pub k : ℕ
  pub uses : Uses
  pub in_table : uses_of code ≡ Some uses
  pub jt_fits : jt < 2 ^ 8
  pub jf_fits : jf < 2 ^ 8
  pub k_fits : k < 2 ^ 32
  pub unused_zero : unused_sum uses jt jf k ≡ 0
  pub is_word : w ≡ word code jt jf k

-- the instruction of three fields, or why there is none
abbrev pub fields_instruction : Option Uses → ℕ → ℕ → ℕ → Result Insn WordFault
fields_instruction None jt jf k = Err BadOpcode
fields_instruction (Some uses) jt jf k = if unused_sum uses jt jf k == 0 then Ok (instruction_with uses jt jf k) else Err StrayField

-- the instruction that a word is read as, or why there is none
unfoldable pub instruction_of : ℕ → Result Insn WordFault
instruction_of w = fields_instruction (uses_of (code_of w)) (true_jump_of w) (false_jump_of w) (constant_of w)

-- of all numbers, exactly the words of instructions are read as an instruction
abbrev pub ReadsInstructionWords : Type 0
ReadsInstructionWords = (w : ℕ) → IsOk (instruction_of w) ↔ IsInstructionWord w

-- the codes of loads, operations and tests
abbrev pub absolute_code : Size → ℕ
absolute_code Word = 0x20
absolute_code Half = 0x28
absolute_code Byte = 0x30

abbrev pub indexed_code : Size → ℕ
indexed_code Word = 0x40
indexed_code Half = 0x48
indexed_code Byte = 0x50

abbrev pub operation_code : Operation → ℕ
operation_code Add = 0x04
operation_code Sub = 0x14
operation_code Mul = 0x24
operation_code Div = 0x34
operation_code Or = 0x44
operation_code And = 0x54
operation_code Lsh = 0x64
operation_code Rsh = 0x74
operation_code Mod = 0x94
operation_code Xor = 0xa4

abbrev pub test_code : Test → ℕ
test_code Equal = 0x15
test_code Greater = 0x25
test_code GreaterOrEqual = 0x35
test_code CommonBit = 0x45

-- with X as operand a code is 8 more, and the constant is not used
abbrev pub operand_word : ℕ → Operand → ℕ → ℕ → ℕ
operand_word code (K k) jt jf = word code jt jf k
operand_word code X jt jf = word (code + 8) jt jf 0

-- the word of an instruction
abbrev pub word_of : Insn → ℕ
word_of (LoadAbsolute size k) = word (absolute_code size) 0 0 k
word_of (LoadIndexed size k) = word (indexed_code size) 0 0 k
word_of (LoadConstant k) = word 0x00 0 0 k
word_of (LoadCell k) = word 0x60 0 0 k
word_of LoadLength = word 0x80 0 0 0
word_of (LoadXConstant k) = word 0x01 0 0 k
word_of (LoadXCell k) = word 0x61 0 0 k
word_of LoadXLength = word 0x81 0 0 0
word_of (LoadXHeader k) = word 0xb1 0 0 k
word_of (Store k) = word 0x02 0 0 k
word_of (StoreX k) = word 0x03 0 0 k
word_of (Alu operation operand) = operand_word (operation_code operation) operand 0 0
word_of Negate = word 0x84 0 0 0
word_of CopyToX = word 0x07 0 0 0
word_of CopyFromX = word 0x87 0 0 0
word_of (Jump k) = word 0x05 0 0 k
word_of (JumpIf test operand offsets) = operand_word (test_code test) operand offsets.jt offsets.jf
word_of (ReturnConstant k) = word 0x06 0 0 k
word_of ReturnA = word 0x16 0 0 0

-- each field of an instruction is in its range
abbrev pub OperandFits : Operand → Type 0
OperandFits (K k) = k < 2 ^ 32
OperandFits X = Unit {0}

abbrev pub FieldsFit : Insn → Type 0
FieldsFit (LoadAbsolute size k) = k < 2 ^ 32
FieldsFit (LoadIndexed size k) = k < 2 ^ 32
FieldsFit (LoadConstant k) = k < 2 ^ 32
FieldsFit (LoadCell k) = k < 2 ^ 32
FieldsFit (LoadXConstant k) = k < 2 ^ 32
FieldsFit (LoadXCell k) = k < 2 ^ 32
FieldsFit (LoadXHeader k) = k < 2 ^ 32
FieldsFit (Store k) = k < 2 ^ 32
FieldsFit (StoreX k) = k < 2 ^ 32
FieldsFit (Alu operation operand) = OperandFits operand
FieldsFit (Jump k) = k < 2 ^ 32
FieldsFit (JumpIf test operand offsets) = OperandFits operand × (offsets.jt < 2 ^ 8) × (offsets.jf < 2 ^ 8)
FieldsFit (ReturnConstant k) = k < 2 ^ 32
FieldsFit LoadLength = Unit {0}
FieldsFit LoadXLength = Unit {0}
FieldsFit Negate = Unit {0}
FieldsFit CopyToX = Unit {0}
FieldsFit CopyFromX = Unit {0}
FieldsFit ReturnA = Unit {0}
