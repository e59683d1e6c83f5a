use Rattle.std.proofs.Common.{◌≡◌, ◌+◌, ◌∙◌, ap, arith, suc, sym, take}
use Rattle.filter_parse.specs.declared.token.Token.TheVariants.{Number}
use Rattle.filter_parse.specs.Token.{capped, value_of}
use Rattle.filter_parse.proofs.NumberLemmas.{hex-lexeme}
use Rattle.filter_parse.proofs.TokenLemmas.{rest_of}
use Rattle.filter_parse.proofs.scan.rare_number_lexeme.Goals as goal

pub returns-then-ends_number : goal.returns-then-ends_number
returns-then-ends_number c =
    let two : c.leading_hexadecimal-len.result.len + 2 ≡ suc (suc c.leading_hexadecimal-len.result.len) = omega arith in
    ap (λ n. record { token = Number n; len = c.leading_hexadecimal-len.result.len + 2 }) c.leading_hexadecimal-len.ensures.worth
    ∙ ap (λ n. record { token = Number (capped (value_of 16 (take c.leading_hexadecimal-len.result.len (rest_of c.args.text.now 2)))); len = n }) two
    ∙ hex-lexeme c.args.text.now c.leading_hexadecimal-len.result.len (sym c.begins_hexadecimal.ensures.exact ∙ c.if-begins_hexadecimal.true)
    c.leading_hexadecimal-len.ensures.len c.leading_hexadecimal-len.ensures.within (omega arith) (sym c.ends_number.ensures ∙ c.if-ends_number.true)
