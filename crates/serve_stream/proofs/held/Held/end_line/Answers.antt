use Rattle.std.proofs.Common.{◌-◌, arith, refl}
use Rattle.std.proofs.lemmas.Result.{err_from_is_err_and}
use Rattle.serve_stream.proofs.HeldLemmas.{fault_is, last_line_ended, line_ended, no_more_lines}
use Rattle.serve_stream.proofs.held.Held.end_line.Goals as goal

pub returns-then-self-eq1 : goal.returns-then-self-eq1
returns-then-self-eq1 c = λ holds. let whole = last_line_ended c.args.self.now (omega (arith, c.if-self-eq1.true)) holds in (whole.0, whole.1, refl)

pub returns-in_err-push : goal.returns-in_err-push
returns-in_err-push c =
    let p = err_from_is_err_and c.from_residual.result c.from_residual.ensures.1 in
    rw (p.1, p.2) (λ holds. fault_is c.in_err-push.field-0.0 _ (λ long.
    no_more_lines c.args.self.now (omega (arith, c.if-self-eq0.false, c.if-self-eq1.false)) (c.in_err-push.ensures long) holds))

pub returns : goal.returns
returns c = λ holds. (
  line_ended c.args.self.now (record { bytes = c.args.self.now.bytes; room = c.args.self.now.room; due = c.args.self.now.due - 1 }) c.push.new.self
      (omega (arith, c.if-self-eq0.false, c.if-self-eq1.false)) refl refl refl c.in_ok-push.ensures holds,
  c.in_ok-push.ensures.items,
)
