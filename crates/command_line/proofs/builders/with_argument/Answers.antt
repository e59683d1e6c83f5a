use Rattle.std.proofs.Common.{Bool, ◌∙◌, ◌||◌, ap₂}
use Rattle.std.proofs.lemmas.Result.{IfOk-weaker}
use Rattle.clap.specs.Words.{with_rule}
use Rattle.command_line.proofs.builders.with_argument.Goals as goal

pub returns-clause-app : goal.returns-clause-app
returns-clause-app c = λ before rule command_is rule_is local.
    let command = rw c.in_ok-command.was at command_is in
    IfOk-weaker c.arg.result _ _ (λ r adds. adds.shape local ∙ ap₂ with_rule command rule_is) c.arg.ensures

pub returns-clause-local : goal.returns-clause-local
returns-clause-local c = λ command_local local.
    let command = rw c.in_ok-command.was at command_local in
    IfOk-weaker c.arg.result _ _ (λ r adds. adds.globals ∙ ap₂ (λ (a b : Bool). a || b) command local) c.arg.ensures
