-- The forms of a line (docs/MACHINE.md, "Assembly text"), one line below for each line of the instruction table.
use Rattle.std.specs.Prelude.{◌≡◌, ◌∷◌, ◌++◌, List, None, Option, Some, [], codes, ℕ}
use Rattle.bpf_insn.specs.declared.instruction.Insn.{Insn}
use Rattle.bpf_insn.specs.declared.instruction.Insn.TheVariants.{Alu, CopyFromX, CopyToX, Jump, JumpIf, LoadAbsolute, LoadCell, LoadConstant, LoadIndexed, LoadLength, LoadXCell, LoadXConstant, LoadXHeader, LoadXLength, Negate, ReturnA, ReturnConstant, Store, StoreX}
use Rattle.bpf_insn.specs.declared.instruction.Size.{Size}
use Rattle.bpf_insn.specs.declared.instruction.Size.TheVariants.{Byte, Half, Word}
use Rattle.bpf_insn.specs.declared.instruction.Operation.{Operation}
use Rattle.bpf_insn.specs.declared.instruction.Operation.TheVariants.{Add, And, Div, Lsh, Mod, Mul, Or, Rsh, Sub, Xor}
use Rattle.bpf_insn.specs.declared.instruction.Operand.{Operand}
use Rattle.bpf_insn.specs.declared.instruction.Operand.TheVariants.{K, X}
use Rattle.bpf_insn.specs.declared.instruction.Test.{Test}
use Rattle.bpf_insn.specs.declared.instruction.Test.TheVariants.{CommonBit, Equal, Greater, GreaterOrEqual}
use Rattle.bpf_asm.specs.Token.{IsTokens, Token, mark, number, word}

-- the target of a jump: so many instructions past the next one, or a label
pub data Target : Type 0 where
  skips : ℕ → Target
  goes_to : List ℕ → Target

-- an instruction; a jump still has its targets as they are written
pub data Statement : Type 0 where
  plain : Insn → Statement
  jump : Target → Statement
  branch : Test → Operand → Target → Target → Statement

-- the content of a line
pub record Line : Type 0 where
  pub label : Option (List ℕ)
  pub statement : Option Statement

-- the mnemonics
abbrev pub load_name : Size → List ℕ
load_name Word = codes "ld"
load_name Half = codes "ldh"
load_name Byte = codes "ldb"

abbrev pub operation_name : Operation → List ℕ
operation_name Add = codes "add"
operation_name Sub = codes "sub"
operation_name Mul = codes "mul"
operation_name Div = codes "div"
operation_name Or = codes "or"
operation_name And = codes "and"
operation_name Lsh = codes "lsh"
operation_name Rsh = codes "rsh"
operation_name Mod = codes "mod"
operation_name Xor = codes "xor"

abbrev pub test_name : Test → List ℕ
test_name Equal = codes "jeq"
test_name Greater = codes "jgt"
test_name GreaterOrEqual = codes "jge"
test_name CommonBit = codes "jset"

-- punctuation by its byte
abbrev pub punctuation : List ℕ → List Token
punctuation [] = []
punctuation (b ∷ bytes) = mark b ∷ punctuation bytes

-- `[k]`, `[x+k]`, `#k`, `M[k]` and `4*([k]&0xf)`, in which 4 and 15 may have any spelling
abbrev pub absolute : ℕ → List Token
absolute k = punctuation (codes "[") ++ number k ∷ punctuation (codes "]")

abbrev pub indexed : ℕ → List Token
indexed k = punctuation (codes "[") ++ word (codes "x") ∷ punctuation (codes "+") ++ number k ∷ punctuation (codes "]")

abbrev pub constant : ℕ → List Token
constant k = punctuation (codes "#") ++ number k ∷ []

abbrev pub cell : ℕ → List Token
cell k = word (codes "M") ∷ absolute k

abbrev pub header : ℕ → List Token
header k = number 4 ∷ punctuation (codes "*([") ++ number k ∷ punctuation (codes "]&") ++ number 15 ∷ punctuation (codes ")")

-- the operand of an operation or a test
abbrev pub operand : Operand → List Token
operand (K k) = constant k
operand X = word (codes "x") ∷ []

-- an instruction that is no jump
abbrev pub SpellsInsn : List Token → Insn → Type 0
SpellsInsn tokens (LoadAbsolute size k) = tokens ≡ word (load_name size) ∷ absolute k
SpellsInsn tokens (LoadIndexed size k) = tokens ≡ word (load_name size) ∷ indexed k
SpellsInsn tokens (LoadConstant k) = tokens ≡ word (codes "ld") ∷ constant k
SpellsInsn tokens (LoadCell k) = tokens ≡ word (codes "ld") ∷ cell k
SpellsInsn tokens LoadLength = tokens ≡ word (codes "ld") ∷ word (codes "len") ∷ []
SpellsInsn tokens (LoadXConstant k) = tokens ≡ word (codes "ldx") ∷ constant k
SpellsInsn tokens (LoadXCell k) = tokens ≡ word (codes "ldx") ∷ cell k
SpellsInsn tokens LoadXLength = tokens ≡ word (codes "ldx") ∷ word (codes "len") ∷ []
SpellsInsn tokens (LoadXHeader k) = tokens ≡ word (codes "ldx") ∷ header k
SpellsInsn tokens (Store k) = tokens ≡ word (codes "st") ∷ cell k
SpellsInsn tokens (StoreX k) = tokens ≡ word (codes "stx") ∷ cell k
SpellsInsn tokens (Alu operation right) = tokens ≡ word (operation_name operation) ∷ operand right
SpellsInsn tokens Negate = tokens ≡ word (codes "neg") ∷ []
SpellsInsn tokens CopyToX = tokens ≡ word (codes "tax") ∷ []
SpellsInsn tokens CopyFromX = tokens ≡ word (codes "txa") ∷ []
SpellsInsn tokens (ReturnConstant k) = tokens ≡ word (codes "ret") ∷ constant k
SpellsInsn tokens ReturnA = tokens ≡ word (codes "ret") ∷ word (codes "a") ∷ []
SpellsInsn tokens (Jump k) = ⊥
SpellsInsn tokens (JumpIf test right offsets) = ⊥

-- a target of `ja`, with a number after `+`, and of a conditional jump
abbrev pub far_target : Target → List Token
far_target (skips k) = punctuation (codes "+") ++ number k ∷ []
far_target (goes_to name) = word name ∷ []

abbrev pub near_target : Target → Token
near_target (skips k) = number k
near_target (goes_to name) = word name

abbrev pub comma : Token
comma = mark 44

abbrev pub SpellsStatement : List Token → Statement → Type 0
SpellsStatement tokens (plain insn) = SpellsInsn tokens insn
SpellsStatement tokens (jump target) = tokens ≡ word (codes "ja") ∷ far_target target
SpellsStatement tokens (branch test right on_true on_false) =
    tokens ≡ word (test_name test) ∷ operand right ++ (comma ∷ near_target on_true ∷ comma ∷ near_target on_false ∷ [])

-- an instruction or none
abbrev pub SpellsRest : List Token → Option Statement → Type 0
SpellsRest tokens None = tokens ≡ []
SpellsRest tokens (Some statement) = SpellsStatement tokens statement

-- a label and `:`, or none, before that
abbrev pub SpellsParts : List Token → Option (List ℕ) → Option Statement → Type 0
SpellsParts tokens None statement = SpellsRest tokens statement
SpellsParts tokens (Some name) statement =
    (rest : List Token) × (tokens ≡ word name ∷ punctuation (codes ":") ++ rest) × SpellsRest rest statement

-- the bytes of a line are this line
abbrev pub Spells_line : List ℕ → Line → Type 0
Spells_line bytes line = (tokens : List Token) × IsTokens bytes tokens × SpellsParts tokens line.label line.statement
