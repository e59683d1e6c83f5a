use Rattle.std.proofs.Common.{refl, subst}
use Rattle.std.specs.Prelude.{Contains}
use Rattle.command_explain.specs.Explanation.{codes_explained}
use Rattle.command_explain.proofs.PrintedLemmas.{utf8-code}
use Rattle.command_explain.proofs.printed.known_code.Goals as goal

pub returns-in_default : goal.returns-in_default
returns-in_default c = λ known. c.in_default.ensures.cases.0 (utf8-code c.args.word.now known)

pub returns : goal.returns
returns c =
    let same = c.in-Ok.ensures.cases.0 in
    (same, subst (Contains codes_explained) same (c.in_ok-explanation.ensures.explained_exactly.0 refl))
