use Rattle.std.proofs.Common.{arith}
use Rattle.std.proofs.lemmas.Grind.{common_steps}
use Rattle.versions.proofs.form.row_names.Goals as goal

pub returns-clause-names : goal.returns-clause-names
returns-clause-names c = grind (arith, common_steps)

pub returns-clause-pages : goal.returns-clause-pages
returns-clause-pages c = grind (arith, common_steps)
