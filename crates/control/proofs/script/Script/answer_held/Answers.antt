use Rattle.std.proofs.Common.{◌∙◌, ◌++◌, ◌∷◌, List, [], ap, append_assoc, subst, ℕ, rules}
use Rattle.control.specs.Script.{RepliesTo}
use Rattle.control.proofs.script.Script.answer_held.Goals as goal

pub returns-in_default-clause-answers : goal.returns-in_default-clause-answers
returns-in_default-clause-answers g c = λ now ready.
    let said = c.in_ok-reply.ensures.replies now ready in
    let cut = c.in_default.ensures.beginning in
    record {
      reply = c.in_ok-reply.reply;
      next = said.0;
      told = cut.told;
      untold = cut.untold ++ (c.in_ok-reply.reply ++ 10 ∷ []);
      replies = subst (λ (line : List ℕ). RepliesTo now line c.in_ok-reply.reply said.0) c.deref.ensures.value said.1;
      beginning = ap (λ front. front ++ (c.in_ok-reply.reply ++ 10 ∷ [])) cut.beginning ∙ append_assoc cut.told cut.untold (c.in_ok-reply.reply ++ 10 ∷ []);
      written = cut.written;
    }

pub returns-clause-answers : goal.returns-clause-answers
returns-clause-answers g c = (
  c.clear.ensures,
  λ now ready. let said = c.in_ok-reply.ensures.replies now ready in record {
    reply = c.in_ok-reply.reply;
    next = said.0;
    replies = subst (λ (line : List ℕ). RepliesTo now line c.in_ok-reply.reply said.0) c.deref.ensures.value said.1;
    ready = said.2;
    written = c.in-Ok.ensures.added;
  },
)

pub returns-clause-device_failed : goal.returns-clause-device_failed
returns-clause-device_failed g c = search rules

pub returns-clause-outside : goal.returns-clause-outside
returns-clause-outside g c = search rules

pub returns-in_default-clause-device_failed : goal.returns-in_default-clause-device_failed
returns-in_default-clause-device_failed g c = search rules

pub returns-in_default-clause-outside : goal.returns-in_default-clause-outside
returns-in_default-clause-outside g c = search rules
