use Rattle.std.proofs.Common.{◌∙◌, None, Some, ap, ap₂, codes}
use Rattle.clap.specs.Words.{found_of, rows_of}
use Rattle.clap.proofs.WalkLemmas.{first_value-rows}
use Rattle.command_line.specs.CommandLine.{run_or_judge, value_in}
use Rattle.command_line.proofs.found.run_or_judge.Goals as goal

pub returns-in-None : goal.returns-in-None
returns-in-None c =
    let found = found_of c.args.found.now in
    let given = c.in-None.ensures ∙ first_value-rows found (codes "expr") in
    ap (λ packet. run_or_judge packet c.format_of-format.result.now None) c.value_of-packet.ensures
    ∙ ap₂ (run_or_judge (value_in (rows_of found) (codes "packet"))) c.format_of-format.ensures given

pub returns-in-Some : goal.returns-in-Some
returns-in-Some c =
    let found = found_of c.args.found.now in
    let given = c.in-Some.ensures ∙ first_value-rows found (codes "expr") in
    ap (λ packet. run_or_judge packet c.format_of-format.result.now (Some c.in-Some.expression.now)) c.value_of-packet.ensures
    ∙ ap₂ (run_or_judge (value_in (rows_of found) (codes "packet"))) c.format_of-format.ensures given
