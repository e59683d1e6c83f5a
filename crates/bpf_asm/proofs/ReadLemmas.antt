-- Statements and lines: what is spelled is read, and has no stray.
use Rattle.std.proofs.Common.{◌≡◌, ◌∙◌, ◌++◌, List, None, Option, Some, [], ap, codes, refl, subst, sym, ◌∷◌, ℕ}
use Rattle.std.specs.Option.{option_map}
use Rattle.bpf_insn.specs.declared.instruction.Insn.{Insn}
use Rattle.bpf_insn.specs.declared.instruction.Insn.TheVariants.{Alu, CopyFromX, CopyToX, Jump, JumpIf, LoadAbsolute, LoadCell, LoadConstant, LoadIndexed, LoadLength, LoadXCell, LoadXConstant, LoadXHeader, LoadXLength, Negate, ReturnA, ReturnConstant, Store, StoreX}
use Rattle.bpf_insn.specs.declared.instruction.Size.TheVariants.{Byte, Half, Word}
use Rattle.bpf_insn.specs.declared.instruction.Operation.{Operation}
use Rattle.bpf_insn.specs.declared.instruction.Operation.TheVariants.{Add, And, Div, Lsh, Mod, Mul, Or, Rsh, Sub, Xor}
use Rattle.bpf_insn.specs.declared.instruction.Operand.{Operand}
use Rattle.bpf_insn.specs.declared.instruction.Operand.TheVariants.{K, X}
use Rattle.bpf_insn.specs.declared.instruction.Test.{Test}
use Rattle.bpf_insn.specs.declared.instruction.Test.TheVariants.{CommonBit, Equal, Greater, GreaterOrEqual}
use Rattle.bpf_asm.proofs.SpelledLemmas.{HasNoStray}
use Rattle.bpf_asm.specs.body.Reading.{after_mark, after_number, after_word, alone, bracket_in, branch_behind, branch_in, cell_operand, closed_in, far_of, form_in, header_in, insn_in, label_or, line, line_in, marked_in, named_in, near_in, operand_of, operation_of, other_insn, rest_in, return_of, short_load, statement_in, test_of, unbranched, unbranched_in, word_load, x_load}
use Rattle.bpf_asm.specs.Statement.{SpellsInsn, SpellsParts, SpellsRest, SpellsStatement, Statement, Target, absolute, branch, cell, comma, constant, far_target, goes_to, header, indexed, jump, near_target, operand, operation_name, plain, skips, test_name}
use Rattle.bpf_asm.specs.Token.{Token, word}

-- the tokens are a mnemonic and an operand that is read with it as this statement, and have no stray
pub record IsRead (tokens : List Token) (statement : Statement) : Type 0 where
  pub name : List ℕ
  pub rest : List Token
  pub parts : tokens ≡ word name ∷ rest
  pub read : statement_in name rest ≡ Some statement
  pub no_colon : after_mark 58 rest ≡ None
  pub no_stray : HasNoStray rest

operation_read : (operation : Operation) (right : Operand) → statement_in (operation_name operation) (operand right) ≡ Some (plain (Alu operation right))
unfolding statement_in test_of unbranched_in unbranched form_in marked_in named_in after_number after_mark insn_in operation_of operand_of
operation_read Add (K k) = refl
operation_read Add X = refl
operation_read Sub (K k) = refl
operation_read Sub X = refl
operation_read Mul (K k) = refl
operation_read Mul X = refl
operation_read Div (K k) = refl
operation_read Div X = refl
operation_read Or (K k) = refl
operation_read Or X = refl
operation_read And (K k) = refl
operation_read And X = refl
operation_read Lsh (K k) = refl
operation_read Lsh X = refl
operation_read Rsh (K k) = refl
operation_read Rsh X = refl
operation_read Mod (K k) = refl
operation_read Mod X = refl
operation_read Xor (K k) = refl
operation_read Xor X = refl

operation_operand : (right : Operand) → (after_mark 58 (operand right) ≡ None) × HasNoStray (operand right)
unfolding after_mark
operation_operand (K k) = (refl, tt)
operation_operand X = (refl, tt)

test_read : (test : Test) → test_of (test_name test) ≡ Some test
unfolding test_of
test_read Equal = refl
test_read Greater = refl
test_read GreaterOrEqual = refl
test_read CommonBit = refl

abbrev branch_operands : Operand → Target → Target → List Token
branch_operands right on_true on_false = operand right ++ (comma ∷ near_target on_true ∷ comma ∷ near_target on_false ∷ [])

-- the operands of a conditional jump are read, and are no colon and no stray
abbrev BranchIsRead : Test → Operand → Target → Target → Type 0
BranchIsRead test right on_true on_false =
    (branch_in test (branch_operands right on_true on_false) ≡ Some (branch test right on_true on_false))
    × (after_mark 58 (branch_operands right on_true on_false) ≡ None)
    × HasNoStray (branch_operands right on_true on_false)

branch_read : (test : Test) (right : Operand) (on_true on_false : Target) → BranchIsRead test right on_true on_false
unfolding branch_in branch_behind form_in marked_in named_in after_number after_mark operand_of near_in
branch_read test (K k) (skips m) (skips n) = (refl, refl, tt)
branch_read test (K k) (skips m) (goes_to other) = (refl, refl, tt)
branch_read test (K k) (goes_to label) (skips n) = (refl, refl, tt)
branch_read test (K k) (goes_to label) (goes_to other) = (refl, refl, tt)
branch_read test X (skips m) (skips n) = (refl, refl, tt)
branch_read test X (skips m) (goes_to other) = (refl, refl, tt)
branch_read test X (goes_to label) (skips n) = (refl, refl, tt)
branch_read test X (goes_to label) (goes_to other) = (refl, refl, tt)

insn_read : (tokens : List Token) (insn : Insn) → SpellsInsn tokens insn → IsRead tokens (plain insn)
unfolding statement_in test_of unbranched_in unbranched form_in marked_in bracket_in closed_in header_in named_in after_number after_mark after_word insn_in operation_of operand_of other_insn word_load short_load x_load cell_operand return_of alone far_of
insn_read tokens (LoadAbsolute Word k) parts =
    record { name = codes "ld"; rest = absolute k; parts = parts; read = refl; no_colon = refl; no_stray = tt }
insn_read tokens (LoadIndexed Word k) parts =
    record { name = codes "ld"; rest = indexed k; parts = parts; read = refl; no_colon = refl; no_stray = tt }
insn_read tokens (LoadAbsolute Half k) parts =
    record { name = codes "ldh"; rest = absolute k; parts = parts; read = refl; no_colon = refl; no_stray = tt }
insn_read tokens (LoadIndexed Half k) parts =
    record { name = codes "ldh"; rest = indexed k; parts = parts; read = refl; no_colon = refl; no_stray = tt }
insn_read tokens (LoadAbsolute Byte k) parts =
    record { name = codes "ldb"; rest = absolute k; parts = parts; read = refl; no_colon = refl; no_stray = tt }
insn_read tokens (LoadIndexed Byte k) parts =
    record { name = codes "ldb"; rest = indexed k; parts = parts; read = refl; no_colon = refl; no_stray = tt }
insn_read tokens (LoadConstant k) parts =
    record { name = codes "ld"; rest = constant k; parts = parts; read = refl; no_colon = refl; no_stray = tt }
insn_read tokens (LoadCell k) parts =
    record { name = codes "ld"; rest = cell k; parts = parts; read = refl; no_colon = refl; no_stray = tt }
insn_read tokens LoadLength parts =
    record { name = codes "ld"; rest = word (codes "len") ∷ []; parts = parts; read = refl; no_colon = refl; no_stray = tt }
insn_read tokens (LoadXConstant k) parts =
    record { name = codes "ldx"; rest = constant k; parts = parts; read = refl; no_colon = refl; no_stray = tt }
insn_read tokens (LoadXCell k) parts =
    record { name = codes "ldx"; rest = cell k; parts = parts; read = refl; no_colon = refl; no_stray = tt }
insn_read tokens LoadXLength parts =
    record { name = codes "ldx"; rest = word (codes "len") ∷ []; parts = parts; read = refl; no_colon = refl; no_stray = tt }
insn_read tokens (LoadXHeader k) parts =
    record { name = codes "ldx"; rest = header k; parts = parts; read = refl; no_colon = refl; no_stray = tt }
insn_read tokens (Store k) parts =
    record { name = codes "st"; rest = cell k; parts = parts; read = refl; no_colon = refl; no_stray = tt }
insn_read tokens (StoreX k) parts =
    record { name = codes "stx"; rest = cell k; parts = parts; read = refl; no_colon = refl; no_stray = tt }
insn_read tokens Negate parts =
    record { name = codes "neg"; rest = []; parts = parts; read = refl; no_colon = refl; no_stray = tt }
insn_read tokens CopyToX parts =
    record { name = codes "tax"; rest = []; parts = parts; read = refl; no_colon = refl; no_stray = tt }
insn_read tokens CopyFromX parts =
    record { name = codes "txa"; rest = []; parts = parts; read = refl; no_colon = refl; no_stray = tt }
insn_read tokens (ReturnConstant k) parts =
    record { name = codes "ret"; rest = constant k; parts = parts; read = refl; no_colon = refl; no_stray = tt }
insn_read tokens ReturnA parts =
    record { name = codes "ret"; rest = word (codes "a") ∷ []; parts = parts; read = refl; no_colon = refl; no_stray = tt }
insn_read tokens (Alu operation right) parts =
    record { name = operation_name operation; rest = operand right; parts = parts; read = operation_read operation right; no_colon = (operation_operand right).0; no_stray = (operation_operand right).1 }
insn_read tokens (Jump k) parts = absurd parts
insn_read tokens (JumpIf test right offsets) parts = absurd parts

pub statement_read : (tokens : List Token) (statement : Statement) → SpellsStatement tokens statement → IsRead tokens statement
unfolding statement_in test_of unbranched_in unbranched form_in marked_in bracket_in closed_in header_in named_in after_number after_mark after_word insn_in operation_of operand_of other_insn word_load short_load x_load cell_operand return_of alone far_of
statement_read tokens (plain insn) parts = insn_read tokens insn parts
statement_read tokens (jump (skips k)) parts =
    record { name = codes "ja"; rest = far_target (skips k); parts = parts; read = refl; no_colon = refl; no_stray = tt }
statement_read tokens (jump (goes_to name)) parts =
    record { name = codes "ja"; rest = far_target (goes_to name); parts = parts; read = refl; no_colon = refl; no_stray = tt }
statement_read tokens (branch test right on_true on_false) parts =
    let own = branch_read test right on_true on_false in
    record { name = test_name test; rest = branch_operands right on_true on_false; parts = parts; read = rw (test_read test) own.0; no_colon = own.1; no_stray = own.2 }

-- ---- lines

rest_read : (tokens : List Token) (statement : Option Statement) → SpellsRest tokens statement → (rest_in tokens ≡ Some statement) × HasNoStray tokens
unfolding rest_in
rest_read tokens None parts = (ap rest_in parts, subst HasNoStray (sym parts) tt)
rest_read tokens (Some statement) parts =
    let own = statement_read tokens statement parts in
    (ap rest_in own.parts ∙ ap (option_map (λ it. Some it)) own.read, subst HasNoStray (sym own.parts) own.no_stray)

pub line_read : (tokens : List Token) (label : Option (List ℕ)) (statement : Option Statement) → SpellsParts tokens label statement → (line_in tokens ≡ Some (line label statement)) × HasNoStray tokens
unfolding line_in after_mark
line_read tokens None None parts = (ap line_in parts, subst HasNoStray (sym parts) tt)
line_read tokens None (Some statement) parts =
    let own = statement_read tokens statement parts in
    let read = ap line_in own.parts ∙ ap (label_or own.name own.rest) own.no_colon ∙ ap (option_map (λ it. line None (Some it))) own.read in
    (read, subst HasNoStray (sym own.parts) own.no_stray)
line_read tokens (Some name) statement (rest, parts, behind) =
    let own = rest_read rest statement behind in
    let read = ap line_in parts ∙ ap (option_map (λ it. line (Some name) it)) own.0 in
    (read, subst HasNoStray (sym parts) own.1)
