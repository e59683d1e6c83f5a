use Rattle.std.proofs.Common.{◌∙◌, ap, sym, ◌∷◌}
use Rattle.std.proofs.lemmas.List.{take_rest}
use Rattle.bpf_asm.specs.body.Reading.{tokens_of}
use Rattle.bpf_asm.specs.Token.{mark, stray}
use Rattle.bpf_asm.proofs.TokenLemmas.{mark_first, no_tokens, number_first, stray_first, word_first}
use Rattle.bpf_asm.proofs.token.first_token.Goals as goal

pub returns-in_err-b : goal.returns-in_err-b
returns-in_err-b c =
    rw c.from_residual.ensures (no_tokens c.args.line.now c.behind_gap-line.result.now c.behind_gap-line.ensures c.in_err-b.ensures.value)

pub returns-then-begins_word : goal.returns-then-begins_word
returns-then-begins_word c =
    word_first c.args.line.now c.behind_gap-line.result.now c.in_ok-b.field-0.now c.behind_gap-line.ensures c.in_ok-b.ensures.value c.longest_run.result.0.now c.longest_run.result.1.now (sym c.begins_word.ensures ∙ c.if-begins_word.true) c.longest_run.ensures.run c.longest_run.ensures.rest

pub returns-then-is_ascii_digit : goal.returns-then-is_ascii_digit
returns-then-is_ascii_digit c =
    rw c.number_token.ensures (number_first c.args.line.now c.behind_gap-line.result.now c.in_ok-b.field-0.now c.behind_gap-line.ensures c.in_ok-b.ensures.value c.longest_run-then-is_ascii_digit.result.0.now c.longest_run-then-is_ascii_digit.result.1.now (sym c.begins_word.ensures ∙ c.if-begins_word.false) (sym c.is_ascii_digit.ensures.value ∙ c.if-is_ascii_digit.true) c.longest_run-then-is_ascii_digit.ensures.run c.longest_run-then-is_ascii_digit.ensures.rest)

pub returns-then-is_mark : goal.returns-then-is_mark
returns-then-is_mark c =
    mark_first c.args.line.now c.behind_gap-line.result.now c.in_ok-b.field-0.now c.behind_gap-line.ensures c.in_ok-b.ensures.value (sym c.begins_word.ensures ∙ c.if-begins_word.false) (sym c.is_ascii_digit.ensures.value ∙ c.if-is_ascii_digit.false) (sym c.is_mark.ensures ∙ c.if-is_mark.true)
    ∙ ap (λ rest. mark c.in_ok-b.field-0.now ∷ tokens_of rest) (sym (take_rest c.behind_gap-line.result.now 1))

pub returns : goal.returns
returns c =
    stray_first c.args.line.now c.behind_gap-line.result.now c.in_ok-b.field-0.now c.behind_gap-line.ensures c.in_ok-b.ensures.value (sym c.begins_word.ensures ∙ c.if-begins_word.false) (sym c.is_ascii_digit.ensures.value ∙ c.if-is_ascii_digit.false) (sym c.is_mark.ensures ∙ c.if-is_mark.false)
    ∙ ap (λ rest. stray ∷ tokens_of rest) (sym (take_rest c.behind_gap-line.result.now 1))
