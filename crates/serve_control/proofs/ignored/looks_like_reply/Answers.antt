use Rattle.std.proofs.lemmas.Bool.{false≢true}
use Rattle.serve_control.proofs.IgnoredLemmas.{looks_by_word, one_word_is_no_reply, word_of_reply}
use Rattle.serve_control.proofs.ignored.looks_like_reply.Goals as goal

pub returns-in-Some : goal.returns-in-Some
returns-in-Some c =
    let cut = c.in-Some.ensures in
    (λ is. looks_by_word _ _ _ cut (c.begins_replies.ensures.0 is), λ looks. c.begins_replies.ensures.1 (word_of_reply _ _ _ cut looks))

pub returns-in-None : goal.returns-in-None
returns-in-None c = (λ is. absurd (false≢true is), λ looks. absurd (one_word_is_no_reply _ c.in-None.ensures looks))
