use Rattle.std.proofs.Common.{◌∙◌, IfErr, subst}
use Rattle.command_query.specs.Query.{IsRefusalOfCode}
use Rattle.command_query.specs.body.Stop.{IsStopBy}
use Rattle.command_query.proofs.explaining.explain.Goals as goal

pub returns-clause-refused : goal.returns-clause-refused
returns-clause-refused c =
    subst (λ text. IfErr c.explain_text.result (IsStopBy (IsRefusalOfCode text))) (c.deref.ensures.value ∙ c.in_ok-text.ensures) c.explain_text.ensures.refused
