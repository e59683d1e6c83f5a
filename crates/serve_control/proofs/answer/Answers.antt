use Rattle.std.proofs.Common.{refl}
use Rattle.std.proofs.lemmas.Bool.{false≢true}
use Rattle.serve_control.specs.Answer.{answers, ignores}
use Rattle.serve_control.proofs.IgnoredLemmas.{answer_is_ignored}
use Rattle.serve_control.proofs.answer.Goals as goal

pub returns-then-is_ignored-clause-answered : goal.returns-then-is_ignored-clause-answered
returns-then-is_ignored-clause-answered g c = ignores (c.if-is_ignored.ensures.0 refl) refl

pub returns-clause-answered : goal.returns-clause-answered
returns-clause-answered g c = answers c.answer_request.result (λ is. false≢true (c.if-is_ignored.ensures.1 is)) c.answer_request.ensures.answered

pub returns-clause-no_loop : goal.returns-clause-no_loop
returns-clause-no_loop g c = answer_is_ignored _ _ _ _ c.answer_request.ensures.answered
