use Rattle.std.proofs.Common.{◌∙◌}
use Rattle.serve_stream.proofs.AnswerLemmas.{answered_at, stops_if}
use Rattle.serve_stream.proofs.conversation.Conversation.answer.Goals as goal

pub returns-clause-answered : goal.returns-clause-answered
returns-clause-answered g c =
    let told = c.answer-answered.ensures in (
      told.0,
      told.1,
      rw c.stage_after-self.ensures (stops_if c.args.end told.0 c.args.self.now.replies c.answer-answered.new.self c.answer-answered.result told.3),
      λ events exchanges asked.
          rw c.stage_after-self.ensures
          (answered_at c.args.self.now c.requires c.args.end told.0 c.clear.new.self c.answer-answered.new.self c.answer-answered.result (told.2 ∙ c.deref.ensures.value) told.3 c.clear.ensures.holds c.clear.ensures.none events exchanges asked),
    )
