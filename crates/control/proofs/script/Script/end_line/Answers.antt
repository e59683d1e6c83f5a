use Rattle.std.proofs.Common.{◌∷◌, Bool, List, [], subst, ℕ}
use Rattle.control.specs.declared.fault.ReplayFault.TheVariants.{OutOfMemory}
use Rattle.control.specs.body.Held.{Holds, HoldsAfterLine}
use Rattle.control.proofs.ScriptLemmas.{with_part}
use Rattle.control.proofs.TakeLemmas.{no_memory, request_ended}
use Rattle.control.proofs.WritingLemmas.{err_is}
use Rattle.control.proofs.script.Script.end_line.Goals as goal

pub returns-in_err-end_line-clause-advances : goal.returns-in_err-end_line-clause-advances
returns-in_err-end_line-clause-advances g c =
    no_memory (10 ∷ []) c.args.self.now _ (g.W.Output.state c.args.writer.now).failures (g.W.Output.state c.args.writer.now).taken c.args.replies.now c.from_residual.result
    (err_is c.from_residual.result OutOfMemory c.from_residual.ensures.1)

pub returns-then-not-branch-clause-advances : goal.returns-then-not-branch-clause-advances
returns-then-not-branch-clause-advances g c = λ read start at.
    with_part read (10 ∷ []) start (g.W.Output.state c.args.writer.now).taken c.args.replies.now c.args.self.now c.end_line.new.self at
    (subst (λ (whole : Bool). (part : List ℕ) → Holds part c.args.self.now.held → HoldsAfterLine whole part c.end_line.new.self) c.if-not-branch.true c.in_ok-end_line.ensures)

pub returns-clause-advances : goal.returns-clause-advances
returns-clause-advances g c =
    request_ended c.args.self.now c.end_line.new.self
    (subst (λ (whole : Bool). (part : List ℕ) → Holds part c.args.self.now.held → HoldsAfterLine whole part c.end_line.new.self) c.if-not-branch.false c.in_ok-end_line.ensures)
    c.answer_held.new.self (g.W.Output.state c.answer_held.new.writer).failures (g.W.Output.state c.args.writer.now).taken c.args.replies.now (g.W.Output.state c.answer_held.new.writer).taken c.answer_held.new.replies
    c.answer_held.result c.answer_held.ensures.answers
