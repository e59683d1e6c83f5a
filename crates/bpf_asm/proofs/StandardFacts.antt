-- Worked lines of the notation, by the definitions alone, so that a slip in one does not check.
use Rattle.std.proofs.Common.{◌≡◌, ◌++◌, List, None, Option, Some, [], arith, codes, inl, inr, refl, sym, ◌∷◌, ℕ}
use Rattle.std.proofs.lemmas.Bool.{false≢true}
use Rattle.std.proofs.lemmas.Fmt.{decimal_digit}
use Rattle.bpf_insn.specs.declared.instruction.Insn.TheVariants.{Jump, JumpIf, LoadXHeader, ReturnA, ReturnConstant}
use Rattle.bpf_insn.specs.declared.instruction.Operand.TheVariants.{K, X}
use Rattle.bpf_insn.specs.declared.instruction.Test.TheVariants.{Equal}
use Rattle.bpf_insn.specs.Table.{offsets}
use Rattle.bpf_asm.specs.declared.fault.AsmFault.TheVariants.{BackwardJump, DoubleLabel, TooFar, UnknownLabel}
use Rattle.bpf_asm.specs.Assembly.{fault_of_lines, places_of}
use Rattle.bpf_asm.specs.Line.{lines_of}
use Rattle.bpf_asm.specs.Statement.{Line, Spells_line, Statement, branch, goes_to, jump, plain, skips}
use Rattle.bpf_asm.specs.Target.{IsCode, statements_of}
use Rattle.bpf_asm.specs.Text.{printed_insn}
use Rattle.bpf_asm.specs.Token.{IsTokens, SpellsNumber, number, word}

-- ---- lines: one more than there are cuts

empty_text : lines_of [] ≡ [] ∷ []
empty_text = refl

three_lines : lines_of (codes "neg;;" ++ 10 ∷ []) ≡ codes "neg" ∷ [] ∷ [] ∷ [] ∷ []
three_lines = refl

-- ---- tokens and numbers

abbrev line : Option (List ℕ) → Option Statement → Line
line label statement = record { label = label; statement = statement }

-- `ret a`: a word, a gap, a word
ret_a : Spells_line (codes "ret a") (line None (Some (plain ReturnA)))
ret_a =
    let last : IsTokens (codes " a") (word (codes "a") ∷ []) =
    (codes " ", codes "a", [], refl, refl, (refl, refl, record { all = refl; longest = λ begins. begins }), refl) in
    (word (codes "ret") ∷ word (codes "a") ∷ [], ([], codes "ret", codes " a", refl, refl, (refl, refl, record { all = refl; longest = false≢true }), last), refl)

-- `1_2` is no number: its first token is 1
one_and_a_word : IsTokens (codes "1_2") (number 1 ∷ word (codes "_2") ∷ [])
one_and_a_word =
    let last : IsTokens (codes "_2") (word (codes "_2") ∷ []) =
    ([], codes "_2", [], refl, refl, (refl, refl, record { all = refl; longest = λ begins. begins }), refl) in
    let one : SpellsNumber (codes "1") 1 = (omega arith, inl (sym (decimal_digit 1 (omega arith)))) in
    ([], codes "1", codes "_2", refl, refl, (refl, record { all = refl; longest = false≢true }, one), last)

-- hexadecimal digits of either case, with zeros before them
hexadecimal : SpellsNumber (codes "0x00aB") 171
hexadecimal =
    (omega arith, inr (codes "00aB", refl, (omega arith, (omega arith, (omega arith, (omega arith, (omega arith, tt))))), refl))

-- ---- labels and targets

-- `ja end; ret #0; end: ret #1`
abbrev three : List Line
three =
    line None (Some (jump (goes_to (codes "end"))))
    ∷ line None (Some (plain (ReturnConstant 0)))
    ∷ line (Some (codes "end")) (Some (plain (ReturnConstant 1)))
    ∷ []

end_of_three : places_of three (codes "end") ≡ Some 2
end_of_three = refl

words_of_three : IsCode (places_of three) 0 (statements_of three) (0x0005_0000_0000_0001 ∷ 0x0006_0000_0000_0000 ∷ 0x0006_0000_0000_0001 ∷ [])
words_of_three =
    (Jump 1, 0x0006_0000_0000_0000 ∷ 0x0006_0000_0000_0001 ∷ [], refl, (1, refl, omega arith, refl), (ReturnConstant 0, 0x0006_0000_0000_0001 ∷ [], refl, refl, (ReturnConstant 1, [], refl, refl, refl)))

no_fault_of_three : fault_of_lines three ≡ None
no_fault_of_three = refl

-- `top: ja top`
back : fault_of_lines (line (Some (codes "top")) (Some (jump (goes_to (codes "top")))) ∷ []) ≡ Some (BackwardJump 1)
back = refl

-- `ja x`, before the same name twice
twice : fault_of_lines (line None (Some (jump (goes_to (codes "x")))) ∷ line (Some (codes "l")) None ∷ line (Some (codes "l")) None ∷ []) ≡ Some (DoubleLabel 3)
twice = refl

-- `jeq #1,256,x` and `jeq #1,x,256`
first_target : fault_of_lines (line None (Some (branch Equal (K 1) (skips 256) (goes_to (codes "x")))) ∷ []) ≡ Some (TooFar 1)
first_target = refl

first_name : fault_of_lines (line None (Some (branch Equal (K 1) (goes_to (codes "x")) (skips 256))) ∷ []) ≡ Some (UnknownLabel 1)
first_name = refl

-- ---- printing

printed_jump : printed_insn (JumpIf Equal X (offsets 0 1)) ≡ codes "jeq x,0,1"
printed_jump = let zero_digit = decimal_digit 0 (omega arith) in let one_digit = decimal_digit 1 (omega arith) in rw (zero_digit, one_digit) refl

printed_header : printed_insn (LoadXHeader 0) ≡ codes "ldx 4*([0]&0xf)"
printed_header = rw (decimal_digit 0 (omega arith)) refl
