use Rattle.std.proofs.Common.{◌≡◌, Err, rules}
use Rattle.std.proofs.lemmas.Bool.{both_ways}
use Rattle.control_line.specs.Rules.{long}
use Rattle.control_line.proofs.RulesLemmas.{file_fault}
use Rattle.control_line.proofs.rules_file.rules.Goals as goal

pub returns-then-not-is_short : goal.returns-then-not-is_short
returns-then-not-is_short c = long (λ short. both_ways c.is_short.result c.if-not-is_short.true (c.is_short.ensures.1 short))

pub returns-in_err-config : goal.returns-in_err-config
returns-in_err-config c =
    let same : c.from_residual.result ≡ Err c.in_err-config.field-0.0 = search rules in
    rw same (file_fault c.args.text.now c.in_err-config.field-0.0 (c.is_short.ensures.0 c.if-not-is_short.false) c.in_err-config.ensures)
