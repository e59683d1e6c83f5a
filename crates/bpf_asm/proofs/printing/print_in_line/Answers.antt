use Rattle.std.proofs.Common.{◌≡◌, ◌∙◌, ◌∷◌, ap, arith, length, subst, suc, sym, string_bytes}
use Rattle.std.proofs.lemmas.List.{take_all}
use Rattle.bpf_asm.proofs.ProgramLemmas.{instruction_word_at, line_printable, line_reads_back}
use Rattle.bpf_asm.specs.Assembly.{Assembles}
use Rattle.bpf_asm.specs.Text.{IsPrintable, printed_in_line}
use Rattle.bpf_insn.specs.Word.{IsInstructionWord}
use Rattle.std.specs.Prelude.{get_or}
use Rattle.bpf_asm.proofs.printing.print_in_line.Goals as goal

pub from_instruction_word-requires : goal.from_instruction_word-requires
from_instruction_word-requires g c =
    let whole : c.words.result.now ≡ c.in-Some.first.now ∷ c.in-Some.others.now = c.in-Some.ensures.cases.0 in
    let size = ap length whole in
    subst (λ words. IsInstructionWord (get_or words 0 0)) whole
    (instruction_word_at c.words.result.now 0 (rw (← c.words.ensures.words) at c.words.ensures.program.accepted) (omega arith))

pub from_instruction_word-requires-in-loop-word : goal.from_instruction_word-requires-in-loop-word
from_instruction_word-requires-in-loop-word g c =
    let whole : c.words.result.now ≡ c.in-Some.first.now ∷ c.in-Some.others.now = c.in-Some.ensures.cases.0 in
    let size = ap length whole in
    let inside = c.loop-word-test.true in
    subst (λ words. IsInstructionWord (get_or words (suc c.loop-word.word-index) 0)) whole
    (instruction_word_at c.words.result.now (suc c.loop-word.word-index) (rw (← c.words.ensures.words) at c.words.ensures.program.accepted) (omega arith))

pub returns-clause-reads_back : goal.returns-clause-reads_back
returns-clause-reads_back g c =
    let (first, whole, text) = c.loop-word.invariant in
    let all = take_all c.loop-word.word-index c.in-Some.others.now c.loop-word-test.false in
    let printed : string_bytes c.loop-word.text ≡ printed_in_line c.args.program.now.words =
    text ∙ ap (λ others. printed_in_line (first ∷ others)) all ∙ ap printed_in_line (sym whole) in
    subst (λ bytes. Assembles bytes c.args.program.now.words) (sym printed) (line_reads_back c.args.program.now.words c.words.ensures.program.accepted)

pub returns-clause-printable : goal.returns-clause-printable
returns-clause-printable g c =
    let (first, whole, text) = c.loop-word.invariant in
    let all = take_all c.loop-word.word-index c.in-Some.others.now c.loop-word-test.false in
    let printed : string_bytes c.loop-word.text ≡ printed_in_line c.args.program.now.words =
    text ∙ ap (λ others. printed_in_line (first ∷ others)) all ∙ ap printed_in_line (sym whole) in
    subst IsPrintable (sym printed) (line_printable c.args.program.now.words c.words.ensures.program.accepted)
