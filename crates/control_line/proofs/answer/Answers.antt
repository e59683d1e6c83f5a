use Rattle.control_line.proofs.answer.Goals as goal

pub returns-in-Some-clause-answered : goal.returns-in-Some-clause-answered
returns-in-Some-clause-answered c = c.answer_block.ensures.answered c.args.text.now c.in-Some.ensures

pub returns-in-Some-clause-memory : goal.returns-in-Some-clause-memory
returns-in-Some-clause-memory c = c.answer_block.ensures.memory c.args.text.now c.in-Some.ensures
