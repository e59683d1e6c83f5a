use Rattle.std.proofs.Common.{[], ◌∙◌, ◌∷◌, ap, arith, length, length-drop, refl, subst}
use Rattle.serve_stream.specs.body.Held.{IsTaken}
use Rattle.serve_stream.specs.declared.held.LineEnd.{LineEnd}
use Rattle.serve_stream.proofs.AnswerLemmas.{answers_one, gives_up, takes}
use Rattle.serve_stream.proofs.conversation.Conversation.step.Goals as goal

pub returns-in-More-clause-answered : goal.returns-in-More-clause-answered
returns-in-More-clause-answered g c = record {
  exchanges = [];
  leads = refl;
  few = omega arith;
  moves = takes c.args.self.now c.requires.stage c.bytes.result.now c.bytes.ensures c.take.new.self c.skip.new.self c.in-Ok.count c.skip.ensures
      (λ holds. subst (λ (end : LineEnd). IsTaken c.bytes.result.now c.args.self.now.held c.take.new.self c.in-Ok.count end) c.in-More.is (c.in-Ok.ensures.taken holds));
  stop = λ none. (λ here. absurd (none here), λ stop. absurd stop);
}

pub returns-in_default : goal.returns-in_default
returns-in_default g c =
    let told = c.answer.ensures.answered in record {
      answered = record {
        exchanges = told.0 ∷ [];
        leads = (c.answer.new.answers, told.1, refl);
        few = omega arith;
        moves = answers_one c.args.self.now c.requires.stage c.bytes.result.now c.bytes.ensures c.take.new.self c.skip.new.self c.in-Ok.count c.skip.ensures c.answer.new.self c.in-Ok.end told.0
            c.in_default.not-More c.in-Ok.ensures.taken told.3;
        stop = λ none. told.2;
      };
      smaller =
          let len = ap length (c.answer.ensures.unread ∙ c.skip.ensures) in
          let shown = ap length c.bytes.ensures in
          let some = c.requires.some in
          let moved = c.in-Ok.ensures.some (omega (arith, shown, some)) in
          omega (arith, len, shown, some, moved, length-drop c.in-Ok.count c.args.self.now.unread);
    }

pub returns-in-Err-clause-answered : goal.returns-in-Err-clause-answered
returns-in-Err-clause-answered g c = record {
  exchanges = [];
  leads = refl;
  few = omega arith;
  moves = gives_up c.args.self.now c.requires.stage c.bytes.result.now c.bytes.ensures c.give_up.new.self c.in-Err.fault c.requires.last c.in-Err.ensures.taken c.give_up.ensures.last c.give_up.ensures.stage c.give_up.ensures.replies;
  stop = λ none. (λ here. let closes = c.give_up.ensures.stage in absurd (cc (here, closes)), λ stop. absurd stop);
}
