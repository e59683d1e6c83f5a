use Rattle.control_rules.proofs.FoundLemmas.{some_holds}
use Rattle.control_rules.proofs.LearnLemmas.{learns_weaker}
use Rattle.control_rules.proofs.ResultLemmas.{new_words}
use Rattle.control_rules.specs.body.Added.{HasWordsOf}
use Rattle.control_rules.proofs.StopLemmas.{err_is}
use Rattle.control_rules.proofs.reading.read_program.Goals as goal

pub returns-in-Some : goal.returns-in-Some
returns-in-Some g c =
    learns_weaker c.args.client.now c.read_program_words.new.client _ _
    (λ history are has. new_words (HasWordsOf (history c.args.version) c.args.program.0 c.args.program.1 c.args.count) c.new.result c.ok.result c.in-Some.words.items c.ok.ensures.value c.new.ensures.words_taken
    (some_holds (λ words. HasWordsOf (history c.args.version) c.args.program.0 c.args.program.1 c.args.count words.items) _ c.in-Some.words has c.in-Some.is))
    c.in_ok-read_program_words.ensures

pub returns-in_err-read_program_words : goal.returns-in_err-read_program_words
returns-in_err-read_program_words g c =
    rw (err_is c.from_residual.result c.in_err-read_program_words.field-0.0 c.from_residual.ensures.1)
    (c.in_err-read_program_words.ensures)
