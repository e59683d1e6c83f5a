use Rattle.std.proofs.lemmas.Bool.{false≢true}
use Rattle.control_line.proofs.RequestLemmas.{no_word}
use Rattle.control_line.proofs.request.read_word.Goals as goal

pub returns : goal.returns
returns c = no_word c.args.line.now c.requires (λ e. false≢true (c.if-is_word.ensures.1 e)) (λ e. false≢true (c.if-is_word-2.ensures.1 e))
