use Rattle.std.proofs.Common.{ap, arith, decimal, subst, sym, ◌≡◌, ◌∙◌, refl}
use Rattle.std.specs.Str.Parse.{AllDigits, digits_value}
use Rattle.control_line.specs.body.Heads.{IsPlainNumber}
use Rattle.control_line.proofs.HeadLemmas.{digits_of_version, plain_version, spelled_version}
use Rattle.control_line.proofs.head.read_version.Goals as goal

pub returns-then-not-is_plain : goal.returns-then-not-is_plain
returns-then-not-is_plain c = λ version small is.
    let plain : IsPlainNumber c.args.field.now = subst IsPlainNumber (sym is) (plain_version version small) in
    let shown = c.if-not-is_plain.ensures.1 plain in cc

pub returns-in_err-version : goal.returns-in_err-version
returns-in_err-version c =
    rw c.from_residual.ensures (λ version small is. c.in_err-version.ensures (subst (AllDigits 10) (sym is) (digits_of_version version small).0))

pub returns-then-version-gt-LAST_NUMBER : goal.returns-then-version-gt-LAST_NUMBER
returns-then-version-gt-LAST_NUMBER c = λ version small is.
    let value : digits_value 10 c.args.field.now ≡ version = ap (digits_value 10) is ∙ (digits_of_version version small).1 in
    omega (arith, value, c.in_ok-version.ensures.1, c.if-version-gt-LAST_NUMBER.true)

pub returns : goal.returns
returns c =
    (omega arith, spelled_version c.args.field.now (c.if-not-is_plain.ensures.0 refl) c.in_ok-version.ensures.0 (omega (arith, c.in_ok-version.ensures.1)) ∙ ap (λ n. decimal n) (sym c.in_ok-version.ensures.1))
