use Rattle.std.proofs.lemmas.Bool.{false≢true}
use Rattle.control_line.proofs.ReadingLemmas.{none_keyed_words, none_numbered_words, none_of_programs, none_of_words, none_placed_words}
use Rattle.control_line.proofs.request.read_words.Goals as goal

pub returns-in_err-key : goal.returns-in_err-key
returns-in_err-key c = rw c.from_residual.ensures (none_of_words c.args.fields.now c.in_err-key.ensures)

pub returns-in_err-key-2 : goal.returns-in_err-key-2
returns-in_err-key-2 c =
    rw c.from_residual-in_err-key-2.ensures (none_keyed_words c.args.fields.now c.in_ok-key.key.now c.in_ok-key.fields.now c.in_ok-key.ensures c.in_err-key-2.ensures)

pub returns-in_err-program : goal.returns-in_err-program
returns-in_err-program c =
    rw c.from_residual-in_err-program.ensures (none_of_programs c.args.fields.now c.in_ok-key.key.now c.in_ok-key.fields.now c.in_ok-key.ensures c.in_err-program.ensures)

pub returns-in_err-place : goal.returns-in_err-place
returns-in_err-place c =
    rw c.from_residual-in_err-place.ensures
    (none_placed_words c.args.fields.now c.in_ok-key.key.now c.in_ok-key.fields.now c.in_ok-key.ensures
    c.in_ok-program.program.now c.in_ok-program.place.now c.in_ok-program.ensures c.in_err-place.ensures)

pub returns-in_err-member : goal.returns-in_err-member
returns-in_err-member c =
    rw c.from_residual-in_err-member.ensures
    (none_numbered_words c.args.fields.now c.in_ok-key.key.now c.in_ok-key.fields.now c.in_ok-key.ensures
    c.in_ok-program.program.now c.in_ok-program.place.now c.in_ok-program.ensures (λ e. false≢true (c.if-is_word.ensures.1 e)) c.in_err-member.ensures)
