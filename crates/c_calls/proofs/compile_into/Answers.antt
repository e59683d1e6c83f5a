use Rattle.filter_program.specs.Program.{expression}
use Rattle.c_calls.proofs.AnswerLemmas.{answers_text}
use Rattle.c_calls.proofs.compile_into.Goals as goal

pub returns-clause-answer : goal.returns-clause-answer
returns-clause-answer c =
    answers_text (expression c.args.text.now) c.compiled.result c.args.words.now c.give_program.new.buffer c.give_program.result c.compiled.ensures.program c.compiled.ensures.fault c.give_program.ensures
