use Rattle.std.proofs.Common.{◌∙◌, ◌∷◌, ap, arith, sym}
use Rattle.std.proofs.lemmas.Fmt.{decimal_digit}
use Rattle.control_rules.proofs.fields.Fields.flag.Goals as goal

pub returns-then-is_word : goal.returns-then-is_word
returns-then-is_word c =
    c.in_ok-field.ensures ∙ ap (λ field. field ∷ c.next.new.self) (c.is_word.ensures.0 c.if-is_word.true ∙ sym (decimal_digit 1 (omega arith)))

pub returns-then-is_word-2 : goal.returns-then-is_word-2
returns-then-is_word-2 c =
    c.in_ok-field.ensures ∙ ap (λ field. field ∷ c.next.new.self) (c.is_word-2.ensures.0 c.if-is_word-2.true ∙ sym (decimal_digit 0 (omega arith)))
