use Rattle.std.proofs.Common.{[], ap, append-nil, refl, sym, ◌∙◌, ◌++◌}
use Rattle.std.proofs.Math.Seq.{take-length}
use Rattle.std.proofs.lemmas.Result.{err_from_is_err_and}
use Rattle.serve_stream.proofs.HeldLemmas.{not_taken, taken_line}
use Rattle.serve_stream.proofs.held.Held.take.Goals as goal

pub returns-in_err-add-clause-taken : goal.returns-in_err-add-clause-taken
returns-in_err-add-clause-taken c =
    let p = err_from_is_err_and c.from_residual.result c.from_residual.ensures.1 in
    rw (p.1, p.2) (λ holds. (c.args.bytes.now, [], sym (append-nil c.args.bytes.now), c.in_err-add.ensures holds))

pub returns-in_default-clause-taken : goal.returns-in_default-clause-taken
returns-in_default-clause-taken c = λ holds.
    let more = c.in_ok-add.ensures holds in (more.0, more.1 ∙ ap (λ t. c.args.self.now.bytes.items ++ t) (sym (take-length c.args.bytes.now)))

pub returns-in_err-add-2-clause-taken : goal.returns-in_err-add-2-clause-taken
returns-in_err-add-2-clause-taken c =
    let p = err_from_is_err_and c.from_residual-in_err-add-2.result c.from_residual-in_err-add-2.ensures.1 in
    rw (p.1, p.2) (λ holds. (c.in-Some.line.now, _, c.in-Some.ensures.whole, c.in_err-add-2.ensures holds))

pub returns-in_err-end_line-clause-taken : goal.returns-in_err-end_line-clause-taken
returns-in_err-end_line-clause-taken c =
    let p = err_from_is_err_and c.from_residual-in_err-end_line.result c.from_residual-in_err-end_line.ensures.1 in
    rw (p.1, p.2) (λ holds.
    let more = c.in_ok-add-2.ensures holds in
    not_taken c.args.bytes.now c.in-Some.line.now c.in-Some.field-0-1.now c.args.self.now c.add-2.new.self c.end_line.new.self c.in-Some.ensures more.1 c.in_err-end_line.field-0.0 (c.in_err-end_line.ensures more.0))

pub returns-clause-taken : goal.returns-clause-taken
returns-clause-taken c = λ holds.
    let more = c.in_ok-add-2.ensures holds in
    taken_line c.args.bytes.now c.in-Some.line.now c.in-Some.field-0-1.now c.args.self.now c.add-2.new.self c.end_line.new.self c.in-Some.ensures more.1 _ _ refl (c.in_ok-end_line.ensures more.0)
