use Rattle.filter_program.specs.Program.{assembly}
use Rattle.c_calls.proofs.AnswerLemmas.{answers_text}
use Rattle.c_calls.proofs.assemble_into.Goals as goal

pub returns-clause-answer : goal.returns-clause-answer
returns-clause-answer c =
    answers_text (assembly c.args.text.now) c.assembled.result c.args.words.now c.give_program.new.buffer c.give_program.result c.assembled.ensures.program c.assembled.ensures.fault c.give_program.ensures
