use Rattle.std.proofs.lemmas.Bool.{false≢true}
use Rattle.std.proofs.Common.{ap, refl, subst, sym, ◌++◌, ◌∙◌, ◌∷◌}
use Rattle.ipv4_fields.specs.Endpoint.{endpoint_text}
use Rattle.control_line.specs.body.Reading.{IsCommandRead}
use Rattle.control_line.proofs.RequestLemmas.{has_key, keyed_is, no_key}
use Rattle.control_line.proofs.request.read_command.Goals as goal

pub returns-in_err-key-3 : goal.returns-in_err-key-3
returns-in_err-key-3 c =
    rw c.from_residual-in_err-key-3.ensures
    (λ command spells. has_key c.args.word.now c.args.fields.now command c.requires spells (λ e. false≢true (c.if-is_word.ensures.1 e)) (λ e. false≢true (c.if-is_word-2.ensures.1 e)) c.in_err-key-3.ensures)

pub returns-in_err-key-4 : goal.returns-in_err-key-4
returns-in_err-key-4 c =
    rw c.from_residual-in_err-key-4.ensures
    (λ command spells. no_key c.args.word.now c.args.fields.now command c.requires spells (λ e. false≢true (c.if-is_word.ensures.1 e)) (λ e. false≢true (c.if-is_word-2.ensures.1 e))
    c.in_ok-key-3.key.now c.in_ok-key-3.fields.now c.in_ok-key-3.ensures.lacks c.in_ok-key-3.ensures.whole c.in_err-key-4.ensures)

pub returns-then-is_word-3 : goal.returns-then-is_word-3
returns-then-is_word-3 c =
    subst (λ line. IsCommandRead line c.read_selector.result)
    (ap (λ word. word ++ 32 ∷ (endpoint_text c.in_ok-key-4.key ++ 32 ∷ c.in_ok-key-3.fields.now)) (sym (c.if-is_word-3.ensures.0 refl))
    ∙ keyed_is c.args.word.now c.in_ok-key-3.key.now c.in_ok-key-3.fields.now c.args.fields.now c.in_ok-key-4.key c.in_ok-key-3.ensures.whole c.in_ok-key-4.ensures.1)
    c.read_selector.ensures

pub returns : goal.returns
returns c =
    subst (λ line. IsCommandRead line c.read_member_line.result)
    (keyed_is c.args.word.now c.in_ok-key-3.key.now c.in_ok-key-3.fields.now c.args.fields.now c.in_ok-key-4.key c.in_ok-key-3.ensures.whole c.in_ok-key-4.ensures.1)
    c.read_member_line.ensures
