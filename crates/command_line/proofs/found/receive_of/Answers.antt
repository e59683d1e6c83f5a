use Rattle.std.proofs.Common.{◌∙◌, ap, Bor, List, codes, ℕ}
use Rattle.clap.specs.Words.{found_of}
use Rattle.clap.proofs.WalkLemmas.{first_value-rows}
use Rattle.command_line.specs.CommandLine.{receive_named}
use Rattle.command_line.proofs.CommandLineLemmas.{read_or}
use Rattle.command_line.proofs.found.receive_of.Goals as goal

pub returns : goal.returns
returns c =
    c.receive_named.ensures
    ∙ ap receive_named (ap (λ (text : Bor (List ℕ)). text.now) c.unwrap_or.ensures
    ∙ read_or c.get_str.result _ _ (c.get_str.ensures ∙ first_value-rows (found_of c.args.found.now) (codes "receive")))
