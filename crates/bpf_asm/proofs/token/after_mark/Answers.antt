use Rattle.std.proofs.Common.{◌∙◌, Some, ap, refl, sym}
use Rattle.std.proofs.lemmas.List.{take_rest}
use Rattle.bpf_asm.specs.body.Reading.{after_mark, tokens_of}
use Rattle.bpf_asm.proofs.TokenLemmas.{mark_found, mark_missed, no_tokens}
use Rattle.bpf_asm.proofs.token.after_mark.Goals as goal

pub returns-in_err-b : goal.returns-in_err-b
unfolding after_mark
returns-in_err-b c =
    rw (c.from_residual.ensures, no_tokens c.args.line.now c.behind_gap-line.result.now c.behind_gap-line.ensures c.in_err-b.ensures.value) refl

pub returns-then-b-mark : goal.returns-then-b-mark
returns-then-b-mark c =
    let line = c.behind_gap-line.result.now in
    ap (λ rest. Some (tokens_of rest)) (take_rest line 1)
    ∙ sym (mark_found c.args.line.now line c.in_ok-b.field-0.now c.behind_gap-line.ensures c.in_ok-b.ensures.value c.args.mark c.requires c.if-b-mark.true)

pub returns-else-b-mark : goal.returns-else-b-mark
returns-else-b-mark c =
    sym (mark_missed c.args.line.now c.behind_gap-line.result.now c.in_ok-b.field-0.now c.behind_gap-line.ensures c.in_ok-b.ensures.value c.args.mark c.if-b-mark.false)
