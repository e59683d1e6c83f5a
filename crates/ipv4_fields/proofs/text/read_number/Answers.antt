use Rattle.std.proofs.Common.{ap, arith, decimal, refl, subst, sym, ◌≡◌, ◌∙◌}
use Rattle.std.specs.Str.Parse.{AllDigits, digits_value}
use Rattle.ipv4_fields.specs.body.Number.{IsPlain}
use Rattle.ipv4_fields.proofs.TextLemmas.{digits_of_decimal, plain-decimal, spelled_value}
use Rattle.ipv4_fields.proofs.text.read_number.Goals as goal

pub returns-then-not-is_plain : goal.returns-then-not-is_plain
returns-then-not-is_plain c = λ n small is.
    let range = c.ranges.limit in
    let plain : IsPlain c.args.field.now = subst IsPlain (sym is) (plain-decimal n (omega arith)) in
    let shown = c.if-not-is_plain.ensures.1 plain in cc

pub returns-in_err-number : goal.returns-in_err-number
returns-in_err-number c =
    rw c.from_residual.ensures (λ n small is. let range = c.ranges.limit in c.in_err-number.ensures (subst (AllDigits 10) (sym is) (digits_of_decimal n (omega arith)).0))

pub returns-then-number-from : goal.returns-then-number-from
returns-then-number-from c = λ n small is.
    let range = c.ranges.limit in
    let value : digits_value 10 c.args.field.now ≡ n = ap (digits_value 10) is ∙ (digits_of_decimal n (omega arith)).1 in
    omega (arith, value, c.in_ok-number.ensures.1, c.from.ensures)

pub returns : goal.returns
returns c =
    let range = c.ranges.limit in
    (omega arith, spelled_value c.args.field.now (c.if-not-is_plain.ensures.0 refl) c.in_ok-number.ensures.0 (omega (arith, c.in_ok-number.ensures.1)) ∙ ap (λ n. decimal n) (sym c.in_ok-number.ensures.1))
