use Rattle.clap.specs.Words.{App}
use Rattle.command_line.specs.Arguments.{metrics_line, top_line}
use Rattle.command_line.specs.body.Half.{with_rules}
use Rattle.command_line.proofs.BuilderLemmas.{and, both}
use Rattle.command_line.proofs.builders.program.Goals as goal

pub returns : goal.returns
returns c =
    let metrics = c.metrics_command.ensures in let top = c.top_command.ensures in
    let to_metrics : App = and metrics_line with_rules in
    let with_metrics = c.with_command-program.ensures with_rules metrics_line c.with_rules.ensures (both c.metrics_command.result metrics_line metrics.app metrics.local) in
    c.with_command.ensures to_metrics top_line with_metrics (both c.top_command.result top_line top.app top.local)
