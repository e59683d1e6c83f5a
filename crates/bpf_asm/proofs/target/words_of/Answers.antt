use Rattle.std.proofs.Common.{◌+◌, arith, drop, get_or, inl, inr, map}
use Rattle.std.proofs.lemmas.Result.{err_from_is_err_and}
use Rattle.bpf_asm.specs.body.View.{line_of, place_among}
use Rattle.bpf_asm.proofs.CodeLemmas.{blank, emits_all, emits_fault, emits_more, lines_done, lines_more}
use Rattle.bpf_asm.proofs.target.words_of.Goals as goal

pub loop-line-preserved : goal.loop-line-preserved
loop-line-preserved g c =
    let lines = c.args.lines.now in
    let i = c.loop-line.line-index in
    let emits = rw (lines_more lines i (omega arith)) at c.loop-line.invariant.0 in (
      emits_more (place_among c.args.labels.now.places) (map line_of lines) (map line_of (drop (i + 1) lines)) (line_of (get_or lines i blank)) c.loop-line.number c.loop-line.words.items c.push_word.new.words.items emits c.in_ok-push_word.ensures,
      omega (arith, c.loop-line.invariant.1),
    )

pub returns-in_err-push_word-clause-fault : goal.returns-in_err-push_word-clause-fault
returns-in_err-push_word-clause-fault g c =
    let lines = c.args.lines.now in
    let i = c.loop-line.line-index in
    let emits = rw (lines_more lines i (omega arith)) at c.loop-line.invariant.0 in
    let p = err_from_is_err_and c.from_residual.result c.from_residual.ensures.1 in
    rw (p.1, p.2) elim c.in_err-push_word.ensures [
      | inl memory ↦ inl memory
      | inr is ↦ inr (emits_fault (place_among c.args.labels.now.places) (map line_of lines) (map line_of (drop (i + 1) lines)) (line_of (get_or lines i blank)) c.loop-line.number c.loop-line.words.items c.in_err-push_word.field-0.0 emits is)
    ]

pub returns-clause-code : goal.returns-clause-code
returns-clause-code g c =
    let lines = c.args.lines.now in
    emits_all (place_among c.args.labels.now.places) (map line_of lines) c.loop-line.number c.loop-line.words.items (rw (lines_done lines c.loop-line.line-index (omega arith)) at c.loop-line.invariant.0)
