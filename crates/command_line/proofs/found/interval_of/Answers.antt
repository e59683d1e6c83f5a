use Rattle.std.proofs.Common.{◌∙◌, ap, Bor, List, codes, ℕ}
use Rattle.clap.specs.Words.{found_of}
use Rattle.clap.proofs.WalkLemmas.{first_value-rows}
use Rattle.command_line.specs.CommandLine.{number_in}
use Rattle.command_line.specs.declared.command.TheConstants.{MAX_INTERVAL}
use Rattle.command_line.proofs.CommandLineLemmas.{read_or}
use Rattle.command_line.proofs.found.interval_of.Goals as goal

pub returns : goal.returns
returns c =
    c.number.ensures.number
    ∙ ap (number_in MAX_INTERVAL) (ap (λ (text : Bor (List ℕ)). text.now) c.unwrap_or.ensures
    ∙ read_or c.get_str.result _ _ (c.get_str.ensures ∙ first_value-rows (found_of c.args.found.now) (codes "interval")))
