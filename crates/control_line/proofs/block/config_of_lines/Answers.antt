use Rattle.std.proofs.Common.{◌≡◌, Err, arith, rules}
use Rattle.control_line.proofs.BlockLemmas.{all_done, line_done, line_failed, none_done, shorter}
use Rattle.control_line.proofs.block.config_of_lines.Goals as goal

pub loop-line-init : goal.loop-line-init
loop-line-init c = ((λ lines are. none_done c.args.start c.args.text.now lines are), c.requires.ends_line, omega arith)

pub returns-in_err-do_numbered : goal.returns-in_err-do_numbered
returns-in_err-do_numbered c = λ lines are.
    let fault = c.in_err-do_numbered.field-0.0 in
    let same : c.from_residual.result ≡ Err fault = search rules in
    rw same (line_failed c.args.start c.loop-line.config c.loop-line.number c.loop-line.left.now lines (c.loop-line.invariant.0 lines are) c.in-Some.line.now c.in-Some.rest.now c.in-Some.ensures
    fault c.in_err-do_numbered.ensures.0 c.in_err-do_numbered.ensures.1)

pub loop-line-preserved : goal.loop-line-preserved
loop-line-preserved c =
    let so_far = c.loop-line.invariant in
    let fewer = shorter c.loop-line.left.now c.in-Some.line.now c.in-Some.rest.now c.in-Some.ensures in (
      (λ lines are.
          line_done c.args.start c.loop-line.config c.loop-line.number c.loop-line.left.now lines (so_far.0 lines are) c.in-Some.line.now c.in-Some.rest.now c.in-Some.ensures
          c.do_numbered.new.config c.in_ok-do_numbered.ensures),
      c.in-Some.ensures.ends_line,
      omega (arith, fewer, so_far.2),
    )

pub returns : goal.returns
returns c = λ lines are.
    all_done c.args.start c.loop-line.config c.loop-line.number c.loop-line.left.now lines (c.loop-line.invariant.0 lines are) (search rules)
