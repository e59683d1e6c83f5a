use Rattle.std.proofs.lemmas.Bool.{false≢true}
use Rattle.control_line.proofs.RequestLemmas.{none_at_number, none_of_number}
use Rattle.control_line.proofs.request.read_number_line.Goals as goal

pub returns-in_err-member : goal.returns-in_err-member
returns-in_err-member c =
    rw c.from_residual.ensures (none_at_number c.args.word.now c.args.key c.args.number.now c.requires.word c.requires.key c.requires.last c.in_err-member.ensures)

pub returns : goal.returns
returns c =
    none_of_number c.args.word.now c.args.key c.args.number.now c.requires.word c.requires.key c.requires.last
    (λ e. false≢true (c.if-is_word.ensures.1 e)) (λ e. false≢true (c.if-is_word-2.ensures.1 e))
