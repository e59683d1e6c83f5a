use Rattle.std.proofs.Common.{◌≡◌, IfErr, IfOk, IsSomeAnd, MatchOption, refl, subst}
use Rattle.control_line.specs.Reason.{IsRefusalOfExpression}
use Rattle.control_line.specs.declared.reason.Reason.{Reason}
use Rattle.control_line.specs.declared.reason.Reason.TheVariants.{BadForm}
use Rattle.std.proofs.lemmas.Result.{IfErr-weaker, IfOk-weaker}
use Rattle.command_query.specs.CommandResult.{IsCompileAnswer}
use Rattle.command_query.specs.body.Stop.{IsStopBy}
use Rattle.command_query.proofs.QueryLemmas.{stopped_alike}
use Rattle.command_query.proofs.queries.compile_to.Goals as goal

pub returns-in_default-clause-stopped : goal.returns-in_default-clause-stopped
returns-in_default-clause-stopped c =
    subst (λ it. MatchOption it (◌≡◌ {A = Reason} BadForm BadForm) (λ format. IsRefusalOfExpression c.args.expression.now BadForm)) c.in_default.ensures refl

pub returns-clause-found : goal.returns-clause-found
returns-clause-found c =
    let format = c.in-Some.format in
    let answered = subst (λ read. IfOk c.compile.result (IsCompileAnswer format read)) c.as_bytes.ensures.value c.compile.ensures.answer in
    IfOk-weaker c.compile.result _ _ (λ answer found. subst (λ it. IsSomeAnd it (λ f. IsCompileAnswer f c.args.expression.now answer)) c.in-Some.ensures found) answered

pub returns-clause-stopped : goal.returns-clause-stopped
returns-clause-stopped c =
    let expression = c.args.expression.now in
    let refused = subst (λ read. IfErr c.compile.result (IsStopBy (IsRefusalOfExpression read))) c.as_bytes.ensures.value c.compile.ensures.refused in
    IfErr-weaker c.compile.result _ _ (λ stop. stopped_alike (IsRefusalOfExpression expression) _ stop (λ reason why. subst (λ it. MatchOption it (reason ≡ BadForm) (λ f. IsRefusalOfExpression expression reason)) c.in-Some.ensures why)) refused
