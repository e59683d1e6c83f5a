use Rattle.std.proofs.Common.{◌∙◌, refl, rules}
use Rattle.control.specs.declared.fault.ReplayFault.TheVariants.{OutOfMemory}
use Rattle.control.proofs.TakeLemmas.{held_no_more, line_failed, taken_all, taken_line, taken_none}
use Rattle.control.proofs.WritingLemmas.{err_is}
use Rattle.control.proofs.script.Script.answer_lines.Goals as goal

pub loop-front-init : goal.loop-front-init
loop-front-init g c = (taken_none c.args.bytes.now c.args.self.now (g.W.Output.state c.args.writer.now).taken c.args.replies.now, c.requires.outside, refl, refl)

pub returns-in_err-add-clause-advances : goal.returns-in_err-add-clause-advances
returns-in_err-add-clause-advances g c =
    held_no_more c.args.bytes.now c.loop-front.left.now c.args.self.now c.loop-front.self (g.W.Output.state c.args.writer.now).taken c.args.replies.now (g.W.Output.state c.loop-front.writer).taken c.loop-front.replies c.loop-front.invariant.0
    (g.W.Output.state c.loop-front.writer).failures _ c.from_residual.result (err_is c.from_residual.result OutOfMemory c.from_residual.ensures.1)

pub returns-in_err-end_line-clause-advances : goal.returns-in_err-end_line-clause-advances
returns-in_err-end_line-clause-advances g c =
    let fault = c.in_err-end_line.field-0.0 in
    line_failed c.args.bytes.now c.loop-front.left.now c.args.self.now c.loop-front.self (g.W.Output.state c.args.writer.now).taken c.args.replies.now (g.W.Output.state c.loop-front.writer).taken c.loop-front.replies c.loop-front.invariant.0
    c.add.new.self c.in-Some.front.now c.in-Some.behind.now c.in-Some.ensures c.in_ok-add.ensures c.end_line.new.self (g.W.Output.state c.end_line.new.writer).failures (g.W.Output.state c.end_line.new.writer).taken c.end_line.new.replies
    fault c.from_residual-in_err-end_line.result (err_is c.from_residual-in_err-end_line.result fault c.from_residual-in_err-end_line.ensures.1) c.in_err-end_line.ensures.advances

pub loop-front-preserved : goal.loop-front-preserved
loop-front-preserved g c =
    let before = c.loop-front.invariant in let ended = c.in_ok-end_line.ensures in (
      taken_line c.args.bytes.now c.loop-front.left.now c.args.self.now c.loop-front.self (g.W.Output.state c.args.writer.now).taken c.args.replies.now (g.W.Output.state c.loop-front.writer).taken c.loop-front.replies before.0
          c.add.new.self c.in-Some.front.now c.in-Some.behind.now c.in-Some.ensures c.in_ok-add.ensures c.end_line.new.self (g.W.Output.state c.end_line.new.writer).failures (g.W.Output.state c.end_line.new.writer).taken c.end_line.new.replies ended.advances,
      ended.outside,
      ended.device_failed ∙ before.2,
      ended.rest_kept ∙ before.3,
    )

pub returns-in_err-add-2-clause-advances : goal.returns-in_err-add-2-clause-advances
returns-in_err-add-2-clause-advances g c =
    held_no_more c.args.bytes.now c.loop-front.left.now c.args.self.now c.loop-front.self (g.W.Output.state c.args.writer.now).taken c.args.replies.now (g.W.Output.state c.loop-front.writer).taken c.loop-front.replies c.loop-front.invariant.0
    (g.W.Output.state c.loop-front.writer).failures _ c.from_residual-in_err-add-2.result (err_is c.from_residual-in_err-add-2.result OutOfMemory c.from_residual-in_err-add-2.ensures.1)

pub returns-clause-advances : goal.returns-clause-advances
returns-clause-advances g c =
    taken_all c.args.bytes.now c.loop-front.left.now c.args.self.now c.loop-front.self (g.W.Output.state c.args.writer.now).taken c.args.replies.now (g.W.Output.state c.loop-front.writer).taken c.loop-front.replies c.loop-front.invariant.0
    c.add-2.new.self c.in_ok-add-2.ensures

pub returns-clause-device_failed : goal.returns-clause-device_failed
returns-clause-device_failed g c = search rules

pub returns-clause-outside : goal.returns-clause-outside
returns-clause-outside g c = search rules
