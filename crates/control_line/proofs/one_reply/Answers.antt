use Rattle.control_line.proofs.OneAnswerLemmas.{one_answer, one_answer_by}
use Rattle.control_line.proofs.one_reply.Goals as goal

pub returns-clause-texts : goal.returns-clause-texts
returns-clause-texts c = one_answer (record { one_program = c.one_meaning.ensures.one_program; one_fault = c.one_meaning.ensures.one_fault; not_both = c.one_meaning.ensures.not_both })

pub returns-clause-compiled : goal.returns-clause-compiled
returns-clause-compiled c = one_answer_by (record { one_program = c.one_meaning.ensures.one_program; one_fault = c.one_meaning.ensures.one_fault; not_both = c.one_meaning.ensures.not_both })
