use Rattle.std.proofs.lemmas.Bool.{false≢true}
use Rattle.std.proofs.Common.{refl, subst}
use Rattle.control_line.specs.body.Reading.{IsCommandRead}
use Rattle.control_line.proofs.RequestLemmas.{filter_line, none_joins, none_numbered, none_other}
use Rattle.control_line.proofs.request.read_member_line.Goals as goal

pub returns-in_err-member : goal.returns-in_err-member
returns-in_err-member c =
    rw c.from_residual.ensures
    (none_numbered c.args.word.now c.args.key c.args.fields.now c.requires.word c.requires.key
    c.in-Some.id.now c.in-Some.rest.now c.in-Some.ensures c.in_err-member.ensures)

pub returns-in_err-to : goal.returns-in_err-to
returns-in_err-to c =
    rw c.from_residual-in_err-to.ensures
    (none_joins c.args.word.now c.args.key c.args.fields.now c.requires.word c.requires.key
    c.in-Some.id.now c.in-Some.rest.now c.in-Some.ensures (c.if-is_word.ensures.0 refl) c.in_err-to.ensures)

pub returns-then-is_word-2 : goal.returns-then-is_word-2
returns-then-is_word-2 c =
    subst (λ line. IsCommandRead line c.read_filter.result)
    (filter_line c.args.word.now c.in-Some.id.now c.in-Some.rest.now c.args.fields.now c.args.key c.in_ok-member.member (c.if-is_word-2.ensures.0 refl) c.in-Some.ensures.whole c.in_ok-member.ensures.1)
    c.read_filter.ensures

pub returns : goal.returns
returns c =
    none_other c.args.word.now c.args.key c.args.fields.now c.requires.word c.requires.key
    c.in-Some.id.now c.in-Some.rest.now c.in-Some.ensures (λ e. false≢true (c.if-is_word.ensures.1 e)) (λ e. false≢true (c.if-is_word-2.ensures.1 e))
