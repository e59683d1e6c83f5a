use Rattle.std.proofs.Common.{refl}
use Rattle.member_group.proofs.AnswerLemmas.{made_answer, memory_answer}
use Rattle.member_group.proofs.config.Config.add_in_place.Goals as goal

pub returns-in_err-insert_group-clause-answer : goal.returns-in_err-insert_group-clause-answer
returns-in_err-insert_group-clause-answer g c = memory_answer _ _ _ c.in_ok-at.ensures.added.1 c.from_residual-in_err-insert_group.ensures.1

pub returns-clause-answer : goal.returns-clause-answer
returns-clause-answer g c = made_answer _ _ _ c.in_ok-at.ensures.added.1 refl
