use Rattle.std.proofs.Common.{Err, List, subst, ℕ, rules}
use Rattle.std.specs.Vec.{vec_len}
use Rattle.control.specs.Script.{Standing}
use Rattle.control.specs.body.ScriptSoFar.{AnswersHeld, IsReadyAt, IsReplied}
use Rattle.control.proofs.HeldLemmas.{none_held, some_held}
use Rattle.control.proofs.ScriptLemmas.{ended, holding}
use Rattle.control.proofs.TakeLemmas.{ends_by_fault, ends_cut, ends_written}
use Rattle.control.proofs.WritingLemmas.{err_is}
use Rattle.control.proofs.script.Script.end.Goals as goal

pub returns-then-is_empty-clause-ends : goal.returns-then-is_empty-clause-ends
returns-then-is_empty-clause-ends g c = λ read start at.
    let bytes = c.args.self.now.held.bytes in
    ended read start (g.W.Output.state c.args.writer.now).taken c.args.self.now at (none_held (vec_len bytes) bytes.items bytes.ok.0 c.if-is_empty.ensures)

pub returns-in_err-answer_held-clause-ends : goal.returns-in_err-answer_held-clause-ends
returns-in_err-answer_held-clause-ends g c =
    let bytes = c.args.self.now.held.bytes in
    let fault = c.in_err-answer_held.field-0.0 in
    ends_by_fault c.args.self.now c.end_script.new.self (λ part holds. c.end_script.ensures part holds (some_held (vec_len bytes) bytes.items bytes.ok.0 c.if-is_empty.ensures)) c.answer_held.new.self
    (g.W.Output.state c.args.writer.now).taken c.answer_held.new.replies (g.W.Output.state c.answer_held.new.writer) fault c.from_residual.result
    (err_is c.from_residual.result fault c.from_residual.ensures.1)
    (subst (λ (waiting : List ℕ). AnswersHeld (g.W.Output.state c.answer_held.new.writer).failures (holding c.args.self.now c.end_script.new.self) c.answer_held.new.self (g.W.Output.state c.args.writer.now).taken waiting
    (g.W.Output.state c.answer_held.new.writer).taken c.answer_held.new.replies (Err fault)) c.new-replies.ensures c.in_err-answer_held.ensures.answers)

pub returns-in_default-clause-ends : goal.returns-in_default-clause-ends
returns-in_default-clause-ends g c =
    let bytes = c.args.self.now.held.bytes in
    ends_cut c.args.self.now c.end_script.new.self (λ part holds. c.end_script.ensures part holds (some_held (vec_len bytes) bytes.items bytes.ok.0 c.if-is_empty.ensures)) c.answer_held.new.self
    (g.W.Output.state c.args.writer.now).taken c.answer_held.new.replies (g.W.Output.state c.answer_held.new.writer).taken (g.W.Output.state c.write.new.writer).taken
    (subst (λ (waiting : List ℕ). (now : Standing) → IsReadyAt c.args.self.now now → IsReplied now c.end_script.new.self.bytes.items c.answer_held.new.self (g.W.Output.state c.args.writer.now).taken waiting
    (g.W.Output.state c.answer_held.new.writer).taken c.answer_held.new.replies) c.new-replies.ensures c.in_ok-answer_held.ensures.answers.1) (g.W.Output.state c.write.new.writer).failures c.in_default.ensures.beginning

pub returns-clause-ends : goal.returns-clause-ends
returns-clause-ends g c =
    let bytes = c.args.self.now.held.bytes in
    ends_written c.args.self.now c.end_script.new.self (λ part holds. c.end_script.ensures part holds (some_held (vec_len bytes) bytes.items bytes.ok.0 c.if-is_empty.ensures)) c.answer_held.new.self
    (g.W.Output.state c.args.writer.now).taken c.answer_held.new.replies (g.W.Output.state c.answer_held.new.writer).taken (g.W.Output.state c.write.new.writer).taken
    (subst (λ (waiting : List ℕ). (now : Standing) → IsReadyAt c.args.self.now now → IsReplied now c.end_script.new.self.bytes.items c.answer_held.new.self (g.W.Output.state c.args.writer.now).taken waiting
    (g.W.Output.state c.answer_held.new.writer).taken c.answer_held.new.replies) c.new-replies.ensures c.in_ok-answer_held.ensures.answers.1) (g.W.Output.state c.write.new.writer).failures c.in-Ok.ensures.written

pub returns-clause-device_failed : goal.returns-clause-device_failed
returns-clause-device_failed g c = search rules

pub returns-in_default-clause-device_failed : goal.returns-in_default-clause-device_failed
returns-in_default-clause-device_failed g c = search rules

pub returns-then-is_empty-clause-device_failed : goal.returns-then-is_empty-clause-device_failed
returns-then-is_empty-clause-device_failed g c = search rules
