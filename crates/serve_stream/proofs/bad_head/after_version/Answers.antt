use Rattle.std.proofs.Common.{◌++◌, ◌∷◌}
use Rattle.serve_stream.proofs.WordLemmas.{no_version, not_at}
use Rattle.serve_stream.proofs.bad_head.after_version.Goals as goal

pub returns-then-not-is_word : goal.returns-then-not-is_word
returns-then-not-is_word c = λ version rest lacks is.
    not_at c.args.text.now c.in_ok-word.word.now c.in_ok-word.rest.now c.in_ok-word.ensures (λ at. absurd (cc (c.if-not-is_word.ensures.1 at))) (version ++ 32 ∷ rest) is

pub returns-in_err-rest : goal.returns-in_err-rest
returns-in_err-rest c =
    rw c.from_residual-in_err-rest.ensures (λ version rest lacks is. no_version c.args.text.now c.in_ok-word.word.now c.in_ok-word.rest.now c.in_ok-word.ensures c.in_err-rest.ensures version rest is)
