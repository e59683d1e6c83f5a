-- What is printed of an instruction spells it.
use Rattle.std.proofs.Common.{◌++◌, ◌<◌, ◌^◌, List, [], arith, codes, inl, inr, refl, sym, ◌∷◌, ℕ}
use Rattle.std.specs.Fmt.{decimal}
use Rattle.std.proofs.lemmas.Bool.{false≢true}
use Rattle.std.proofs.lemmas.Fmt.{decimal_digit}
use Rattle.bpf_insn.specs.declared.instruction.Insn.{Insn}
use Rattle.bpf_insn.specs.declared.instruction.Insn.TheVariants.{Alu, CopyFromX, CopyToX, Jump, JumpIf, LoadAbsolute, LoadCell, LoadConstant, LoadIndexed, LoadLength, LoadXCell, LoadXConstant, LoadXHeader, LoadXLength, Negate, ReturnA, ReturnConstant, Store, StoreX}
use Rattle.bpf_insn.specs.declared.instruction.Size.{Size}
use Rattle.bpf_insn.specs.declared.instruction.Size.TheVariants.{Byte, Half, Word}
use Rattle.bpf_insn.specs.declared.instruction.Operation.{Operation}
use Rattle.bpf_insn.specs.declared.instruction.Operation.TheVariants.{Add, And, Div, Lsh, Mod, Mul, Or, Rsh, Sub, Xor}
use Rattle.bpf_insn.specs.declared.instruction.Operand.{Operand}
use Rattle.bpf_insn.specs.declared.instruction.Operand.TheVariants.{K, X}
use Rattle.bpf_insn.specs.declared.instruction.Test.{Test}
use Rattle.bpf_insn.specs.declared.instruction.Test.TheVariants.{CommonBit, Equal, Greater, GreaterOrEqual}
use Rattle.bpf_insn.specs.Word.{FieldsFit, OperandFits}
use Rattle.bpf_asm.proofs.ShownLemmas.{IsName, Shows, decimal_shown, gap_shown, last_decimal_shown, mark_shown, name_shown, nothing_shown, number_shown}
use Rattle.bpf_asm.specs.Statement.{SpellsStatement, Statement, absolute, branch, cell, constant, header, indexed, jump, load_name, operand, operation_name, plain, skips, test_name}
use Rattle.bpf_asm.specs.Text.{printed_insn, printed_operand}
use Rattle.bpf_asm.specs.Token.{Token, mark, number, word}

-- ---- mnemonics

load_is_name : (size : Size) → IsName (load_name size)
load_is_name Word = record { begins = refl; all = refl; stays = refl }
load_is_name Half = record { begins = refl; all = refl; stays = refl }
load_is_name Byte = record { begins = refl; all = refl; stays = refl }

operation_is_name : (operation : Operation) → IsName (operation_name operation)
operation_is_name Add = record { begins = refl; all = refl; stays = refl }
operation_is_name Sub = record { begins = refl; all = refl; stays = refl }
operation_is_name Mul = record { begins = refl; all = refl; stays = refl }
operation_is_name Div = record { begins = refl; all = refl; stays = refl }
operation_is_name Or = record { begins = refl; all = refl; stays = refl }
operation_is_name And = record { begins = refl; all = refl; stays = refl }
operation_is_name Lsh = record { begins = refl; all = refl; stays = refl }
operation_is_name Rsh = record { begins = refl; all = refl; stays = refl }
operation_is_name Mod = record { begins = refl; all = refl; stays = refl }
operation_is_name Xor = record { begins = refl; all = refl; stays = refl }

test_is_name : (test : Test) → IsName (test_name test)
test_is_name Equal = record { begins = refl; all = refl; stays = refl }
test_is_name Greater = record { begins = refl; all = refl; stays = refl }
test_is_name GreaterOrEqual = record { begins = refl; all = refl; stays = refl }
test_is_name CommonBit = record { begins = refl; all = refl; stays = refl }

-- a mnemonic, a space and an operand
behind : (name text : List ℕ) (tokens : List Token) → IsName name → Shows text tokens → Shows (name ++ 32 ∷ text) (word name ∷ tokens)
behind name text tokens is shown = name_shown name (32 ∷ text) tokens is false≢true (gap_shown text tokens shown)

alone : (name : List ℕ) → IsName name → Shows (name ++ []) (word name ∷ [])
alone name is = name_shown name [] [] is (λ begins. begins) nothing_shown

-- ---- operands

module _ (k : ℕ) (small : k < 2 ^ 32) where
  -- `k]`
  closed_shown : Shows (decimal k ++ codes "]") (number k ∷ mark 93 ∷ [])
  closed_shown = decimal_shown k (codes "]") (mark 93 ∷ []) small false≢true (mark_shown 93 [] [] refl refl nothing_shown)

  absolute_shown : Shows (91 ∷ (decimal k ++ codes "]")) (absolute k)
  absolute_shown = mark_shown 91 (decimal k ++ codes "]") (number k ∷ mark 93 ∷ []) refl refl closed_shown

  indexed_shown : Shows (91 ∷ 120 ∷ 43 ∷ (decimal k ++ codes "]")) (indexed k)
  indexed_shown =
      let plus = mark_shown 43 (decimal k ++ codes "]") (number k ∷ mark 93 ∷ []) refl refl closed_shown in
      let x : IsName (codes "x") = record { begins = refl; all = refl; stays = refl } in
      mark_shown 91 (120 ∷ 43 ∷ (decimal k ++ codes "]")) (word (codes "x") ∷ mark 43 ∷ number k ∷ mark 93 ∷ []) refl refl (name_shown (codes "x") (43 ∷ (decimal k ++ codes "]")) (mark 43 ∷ number k ∷ mark 93 ∷ []) x false≢true plus)

  constant_shown : Shows (35 ∷ decimal k) (constant k)
  constant_shown = mark_shown 35 (decimal k) (number k ∷ []) refl refl (last_decimal_shown k small)

  cell_shown : Shows (77 ∷ 91 ∷ (decimal k ++ codes "]")) (cell k)
  cell_shown =
      let m : IsName (codes "M") = record { begins = refl; all = refl; stays = refl } in
      name_shown (codes "M") (91 ∷ (decimal k ++ codes "]")) (absolute k) m false≢true absolute_shown

  -- `&0xf)`
  mask_shown : Shows (codes "]&0xf)") (mark 93 ∷ mark 38 ∷ number 15 ∷ mark 41 ∷ [])
  mask_shown =
      let close = mark_shown 41 [] [] refl refl nothing_shown in
      let mask = number_shown (codes "0xf") (codes ")") 15 (mark 41 ∷ []) (refl, refl, refl) (omega arith, inr (codes "f", refl, (omega arith, (omega arith, tt)), refl)) false≢true close in
      mark_shown 93 (codes "&0xf)") (mark 38 ∷ number 15 ∷ mark 41 ∷ []) refl refl (mark_shown 38 (codes "0xf)") (number 15 ∷ mark 41 ∷ []) refl refl mask)

  header_shown : Shows (codes "4*([" ++ (decimal k ++ codes "]&0xf)")) (header k)
  header_shown =
      let byte = decimal_shown k (codes "]&0xf)") (mark 93 ∷ mark 38 ∷ number 15 ∷ mark 41 ∷ []) small false≢true mask_shown in
      let bracket = mark_shown 91 (decimal k ++ codes "]&0xf)") (number k ∷ mark 93 ∷ mark 38 ∷ number 15 ∷ mark 41 ∷ []) refl refl byte in
      let parenthesis = mark_shown 40 (91 ∷ (decimal k ++ codes "]&0xf)")) (mark 91 ∷ number k ∷ mark 93 ∷ mark 38 ∷ number 15 ∷ mark 41 ∷ []) refl refl bracket in
      let star = mark_shown 42 (40 ∷ 91 ∷ (decimal k ++ codes "]&0xf)")) (mark 40 ∷ mark 91 ∷ number k ∷ mark 93 ∷ mark 38 ∷ number 15 ∷ mark 41 ∷ []) refl refl parenthesis in
      number_shown (codes "4") (42 ∷ 40 ∷ 91 ∷ (decimal k ++ codes "]&0xf)")) 4 (mark 42 ∷ mark 40 ∷ mark 91 ∷ number k ∷ mark 93 ∷ mark 38 ∷ number 15 ∷ mark 41 ∷ []) (refl, refl, refl) (omega arith, inl (sym (decimal_digit 4 (omega arith)))) false≢true star

operand_shown : (right : Operand) → OperandFits right → Shows (printed_operand right) (operand right)
operand_shown (K k) small = constant_shown k small
operand_shown X fits = alone (codes "x") (record { begins = refl; all = refl; stays = refl })

-- an operand before a comma
before_comma : (right : Operand) (text : List ℕ) (tokens : List Token) → OperandFits right → Shows text tokens → Shows (printed_operand right ++ 44 ∷ text) (operand right ++ mark 44 ∷ tokens)
before_comma (K k) text tokens small shown =
    let comma = mark_shown 44 text tokens refl refl shown in
    mark_shown 35 (decimal k ++ 44 ∷ text) (number k ∷ mark 44 ∷ tokens) refl refl (decimal_shown k (44 ∷ text) (mark 44 ∷ tokens) small false≢true comma)
before_comma X text tokens fits shown =
    name_shown (codes "x") (44 ∷ text) (mark 44 ∷ tokens) (record { begins = refl; all = refl; stays = refl }) false≢true (mark_shown 44 text tokens refl refl shown)

-- ---- instructions

-- the statement that is printed of an instruction: jumps go by numbers
abbrev pub statement_for : Insn → Statement
statement_for (Jump k) = jump (skips k)
statement_for (JumpIf test right offsets) = branch test right (skips offsets.jt) (skips offsets.jf)
statement_for (LoadAbsolute size k) = plain (LoadAbsolute size k)
statement_for (LoadIndexed size k) = plain (LoadIndexed size k)
statement_for (LoadConstant k) = plain (LoadConstant k)
statement_for (LoadCell k) = plain (LoadCell k)
statement_for LoadLength = plain LoadLength
statement_for (LoadXConstant k) = plain (LoadXConstant k)
statement_for (LoadXCell k) = plain (LoadXCell k)
statement_for LoadXLength = plain LoadXLength
statement_for (LoadXHeader k) = plain (LoadXHeader k)
statement_for (Store k) = plain (Store k)
statement_for (StoreX k) = plain (StoreX k)
statement_for (Alu operation right) = plain (Alu operation right)
statement_for Negate = plain Negate
statement_for CopyToX = plain CopyToX
statement_for CopyFromX = plain CopyFromX
statement_for (ReturnConstant k) = plain (ReturnConstant k)
statement_for ReturnA = plain ReturnA

-- the tokens that are printed, and that they spell the statement
pub record Prints (insn : Insn) : Type 0 where
  pub tokens : List Token
  pub shown : Shows (printed_insn insn) tokens
  pub spelled : SpellsStatement tokens (statement_for insn)

pub insn_prints : (insn : Insn) → FieldsFit insn → Prints insn
insn_prints (LoadAbsolute size k) fits =
    record { tokens = word (load_name size) ∷ absolute k; shown = behind (load_name size) (91 ∷ (decimal k ++ codes "]")) (absolute k) (load_is_name size) (absolute_shown k fits); spelled = refl }
insn_prints (LoadIndexed size k) fits =
    record { tokens = word (load_name size) ∷ indexed k; shown = behind (load_name size) (91 ∷ 120 ∷ 43 ∷ (decimal k ++ codes "]")) (indexed k) (load_is_name size) (indexed_shown k fits); spelled = refl }
insn_prints (LoadConstant k) fits =
    record { tokens = word (codes "ld") ∷ constant k; shown = behind (codes "ld") (35 ∷ decimal k) (constant k) (record { begins = refl; all = refl; stays = refl }) (constant_shown k fits); spelled = refl }
insn_prints (LoadCell k) fits =
    record { tokens = word (codes "ld") ∷ cell k; shown = behind (codes "ld") (77 ∷ 91 ∷ (decimal k ++ codes "]")) (cell k) (record { begins = refl; all = refl; stays = refl }) (cell_shown k fits); spelled = refl }
insn_prints LoadLength fits =
    record { tokens = word (codes "ld") ∷ word (codes "len") ∷ []; shown = behind (codes "ld") (codes "len") (word (codes "len") ∷ []) (record { begins = refl; all = refl; stays = refl }) (alone (codes "len") (record { begins = refl; all = refl; stays = refl })); spelled = refl }
insn_prints (LoadXConstant k) fits =
    record { tokens = word (codes "ldx") ∷ constant k; shown = behind (codes "ldx") (35 ∷ decimal k) (constant k) (record { begins = refl; all = refl; stays = refl }) (constant_shown k fits); spelled = refl }
insn_prints (LoadXCell k) fits =
    record { tokens = word (codes "ldx") ∷ cell k; shown = behind (codes "ldx") (77 ∷ 91 ∷ (decimal k ++ codes "]")) (cell k) (record { begins = refl; all = refl; stays = refl }) (cell_shown k fits); spelled = refl }
insn_prints LoadXLength fits =
    record { tokens = word (codes "ldx") ∷ word (codes "len") ∷ []; shown = behind (codes "ldx") (codes "len") (word (codes "len") ∷ []) (record { begins = refl; all = refl; stays = refl }) (alone (codes "len") (record { begins = refl; all = refl; stays = refl })); spelled = refl }
insn_prints (LoadXHeader k) fits =
    record { tokens = word (codes "ldx") ∷ header k; shown = behind (codes "ldx") (codes "4*([" ++ (decimal k ++ codes "]&0xf)")) (header k) (record { begins = refl; all = refl; stays = refl }) (header_shown k fits); spelled = refl }
insn_prints (Store k) fits =
    record { tokens = word (codes "st") ∷ cell k; shown = behind (codes "st") (77 ∷ 91 ∷ (decimal k ++ codes "]")) (cell k) (record { begins = refl; all = refl; stays = refl }) (cell_shown k fits); spelled = refl }
insn_prints (StoreX k) fits =
    record { tokens = word (codes "stx") ∷ cell k; shown = behind (codes "stx") (77 ∷ 91 ∷ (decimal k ++ codes "]")) (cell k) (record { begins = refl; all = refl; stays = refl }) (cell_shown k fits); spelled = refl }
insn_prints (Alu operation right) fits =
    record { tokens = word (operation_name operation) ∷ operand right; shown = behind (operation_name operation) (printed_operand right) (operand right) (operation_is_name operation) (operand_shown right fits); spelled = refl }
insn_prints (ReturnConstant k) fits =
    record { tokens = word (codes "ret") ∷ constant k; shown = behind (codes "ret") (35 ∷ decimal k) (constant k) (record { begins = refl; all = refl; stays = refl }) (constant_shown k fits); spelled = refl }
insn_prints ReturnA fits =
    record { tokens = word (codes "ret") ∷ word (codes "a") ∷ []; shown = behind (codes "ret") (codes "a") (word (codes "a") ∷ []) (record { begins = refl; all = refl; stays = refl }) (alone (codes "a") (record { begins = refl; all = refl; stays = refl })); spelled = refl }
insn_prints Negate fits = record { tokens = word (codes "neg") ∷ []; shown = alone (codes "neg") (record { begins = refl; all = refl; stays = refl }); spelled = refl }
insn_prints CopyToX fits = record { tokens = word (codes "tax") ∷ []; shown = alone (codes "tax") (record { begins = refl; all = refl; stays = refl }); spelled = refl }
insn_prints CopyFromX fits = record { tokens = word (codes "txa") ∷ []; shown = alone (codes "txa") (record { begins = refl; all = refl; stays = refl }); spelled = refl }
insn_prints (Jump k) fits =
    let skip = mark_shown 43 (decimal k) (number k ∷ []) refl refl (last_decimal_shown k fits) in
    record { tokens = word (codes "ja") ∷ mark 43 ∷ number k ∷ []; shown = behind (codes "ja") (43 ∷ decimal k) (mark 43 ∷ number k ∷ []) (record { begins = refl; all = refl; stays = refl }) skip; spelled = refl }
insn_prints (JumpIf test right offsets) fits =
    let jf = last_decimal_shown offsets.jf (omega (arith, fits.2)) in
    let comma = mark_shown 44 (decimal offsets.jf) (number offsets.jf ∷ []) refl refl jf in
    let jt = decimal_shown offsets.jt (44 ∷ decimal offsets.jf) (mark 44 ∷ number offsets.jf ∷ []) (omega (arith, fits.1)) false≢true comma in
    let all = before_comma right (decimal offsets.jt ++ (44 ∷ decimal offsets.jf)) (number offsets.jt ∷ mark 44 ∷ number offsets.jf ∷ []) fits.0 jt in
    record {
      tokens = word (test_name test) ∷ operand right ++ (mark 44 ∷ number offsets.jt ∷ mark 44 ∷ number offsets.jf ∷ []);
      shown = behind (test_name test) (printed_operand right ++ (44 ∷ (decimal offsets.jt ++ (44 ∷ decimal offsets.jf)))) (operand right ++ (mark 44 ∷ number offsets.jt ∷ mark 44 ∷ number offsets.jf ∷ [])) (test_is_name test) all;
      spelled = refl;
    }
