use Rattle.std.proofs.lemmas.Bool.{false≢true}
use Rattle.serve_control.proofs.MembersLemmas.{no_space_asked, other_word}
use Rattle.serve_control.proofs.members.read_asked.Goals as goal

pub returns-in_err-word : goal.returns-in_err-word
returns-in_err-word c = rw c.from_residual.ensures (no_space_asked c.args.text.now c.in_err-word.ensures)

pub returns-then-not-is_word : goal.returns-then-not-is_word
returns-then-not-is_word c =
    other_word c.args.text.now c.in_ok-word.word.now c.in_ok-word.names.now c.in_ok-word.ensures (λ is. false≢true (c.if-not-is_word.ensures.1 is))
