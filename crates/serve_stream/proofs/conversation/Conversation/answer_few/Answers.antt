use Rattle.std.proofs.Common.{◌-◌, ap, arith, length}
use Rattle.serve_stream.proofs.MoveLemmas.{few_more, few_none}
use Rattle.serve_stream.proofs.conversation.Conversation.answer_few.Goals as goal

pub loop-left-init : goal.loop-left-init
loop-left-init g c = (omega arith, few_none g.A.Answers.exchanges (c.args.budget - c.args.budget) c.args.answers.now c.args.self.now, λ none. none, λ here. here, λ here. here)

pub loop-left-preserved-then-step : goal.loop-left-preserved-then-step
loop-left-preserved-then-step g c =
    let before = c.loop-left.invariant in
    let left = before.0 in
    let may = c.may_go_on.ensures c.if-may_go_on.true in
    let some = c.loop-left-test.true in (
      omega arith,
      few_more g.A.Answers.exchanges (c.args.budget - c.loop-left.left) 1 (c.args.budget - (c.loop-left.left - 1)) c.args.answers.now c.loop-left.answers c.step.new.answers
          c.args.self.now c.loop-left.self c.step.new.self before.1 c.if-step.ensures.answered (omega arith) (λ stop. absurd (cc (may.0, stop))),
      λ none. let len = ap length (before.2 none) in let more = may.2 in absurd (omega (arith, len, more)),
      λ here. before.3 may.0,
      λ here. absurd (cc (may.0, before.4 here)),
    )

pub loop-left-preserved : goal.loop-left-preserved
loop-left-preserved g c =
    let before = c.loop-left.invariant in
    let left = before.0 in
    let may = c.may_go_on.ensures c.if-may_go_on.true in (
      left,
      few_more g.A.Answers.exchanges (c.args.budget - c.loop-left.left) 0 (c.args.budget - c.loop-left.left) c.args.answers.now c.loop-left.answers c.step.new.answers
          c.args.self.now c.loop-left.self c.step.new.self before.1 c.if-step.ensures.answered (omega arith) (λ stop. absurd (cc (may.0, stop))),
      λ none. let len = ap length (before.2 none) in let more = may.2 in absurd (omega (arith, len, more)),
      λ here. before.3 may.0,
      λ here. absurd (cc (may.0, before.4 here)),
    )
