use Rattle.std.proofs.Common.{refl, subst, sym}
use Rattle.std.specs.Str.{IsUtf8}
use Rattle.command_explain.specs.body.Word.{IsPlain}
use Rattle.command_explain.proofs.PrintedLemmas.{parsed, plain-decimal, utf8-decimal}
use Rattle.command_explain.proofs.printed.number_of.Goals as goal

pub returns-then-not-is_plain : goal.returns-then-not-is_plain
returns-then-not-is_plain c = λ n small is.
    let plain : IsPlain c.args.field.now = subst IsPlain (sym is) (plain-decimal n small) in
    let shown = c.if-not-is_plain.ensures.1 plain in cc

pub returns-in_default : goal.returns-in_default
returns-in_default c = λ n small is. c.in_default.ensures.cases.0 (subst IsUtf8 (sym is) (utf8-decimal n small))

pub returns : goal.returns
returns c =
    rw c.ok.ensures.value
    (parsed c.args.field.now c.parse.result (c.if-not-is_plain.ensures.0 refl) (rw c.in-Ok.ensures.cases.0 at c.parse.ensures.value.0))
