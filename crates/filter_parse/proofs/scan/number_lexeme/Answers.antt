use Rattle.std.proofs.Common.{◌∙◌, ap, sym}
use Rattle.filter_parse.specs.declared.token.Token.TheVariants.{Number}
use Rattle.filter_parse.proofs.NumberLemmas.{plain-lexeme}
use Rattle.filter_parse.proofs.scan.number_lexeme.Goals as goal

pub returns-then-ends_number : goal.returns-then-ends_number
returns-then-ends_number c =
    ap (λ n. record { token = Number n; len = c.leading_digits-len.result.len }) c.leading_digits-len.ensures.worth
    ∙ plain-lexeme c.args.text.now c.leading_digits-len.result.len c.leading_digits-len.ensures.len c.leading_digits-len.ensures.within
    (sym c.is_plain.ensures ∙ c.if-is_plain.true) (sym c.ends_number.ensures ∙ c.if-ends_number.true)
