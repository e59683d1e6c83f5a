use Rattle.std.proofs.Common.{List, subst, ℕ, rules}
use Rattle.control.specs.body.ScriptSoFar.{Advances}
use Rattle.control.proofs.TakeLemmas.{all_written}
use Rattle.control.proofs.script.Script.take.Goals as goal

pub returns-clause-advances : goal.returns-clause-advances
returns-clause-advances g c =
    all_written c.args.bytes.now c.args.self.now c.answer_lines-answered.new.self (g.W.Output.state c.args.writer.now).taken c.answer_lines-answered.new.replies (g.W.Output.state c.answer_lines-answered.new.writer)
    (g.W.Output.state c.write_waiting.new.writer) c.answer_lines-answered.result c.write_waiting.result
    (subst (λ (waiting : List ℕ). Advances (g.W.Output.state c.answer_lines-answered.new.writer).failures c.args.bytes.now c.args.self.now c.answer_lines-answered.new.self (g.W.Output.state c.args.writer.now).taken waiting
    (g.W.Output.state c.answer_lines-answered.new.writer).taken c.answer_lines-answered.new.replies c.answer_lines-answered.result) c.new-replies.ensures c.answer_lines-answered.ensures.advances)
    c.write_waiting.ensures.written

pub returns-clause-device_failed : goal.returns-clause-device_failed
returns-clause-device_failed g c = search rules

pub returns-clause-outside : goal.returns-clause-outside
returns-clause-outside g c = search rules
