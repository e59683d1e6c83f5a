use Rattle.std.proofs.Common.{◌∙◌, ap, ap₂}
use Rattle.std.proofs.lemmas.Result.{IfOk-weaker}
use Rattle.clap.specs.Words.{App, Shape, with_subcommand}
use Rattle.command_line.proofs.builders.with_command.Goals as goal

abbrev top_of : App → Shape
top_of a = a.top

pub returns : goal.returns
returns c = λ before line program_is command_is.
    let program = rw c.in_ok-program.was at program_is in
    let command = rw c.in_ok-command.was at command_is in
    IfOk-weaker c.subcommand.result _ _ (λ r adds. adds.shape command.1 ∙ ap₂ with_subcommand program (ap top_of command.0)) c.subcommand.ensures
