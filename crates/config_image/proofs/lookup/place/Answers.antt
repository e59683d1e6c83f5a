use Rattle.std.proofs.Common.{arith, rules}
use Rattle.std.proofs.lemmas.Grind.{common_steps}
use Rattle.config_image.proofs.lookup.place.Goals as goal

pub returns-else-reference-eq0-clause-found : goal.returns-else-reference-eq0-clause-found
returns-else-reference-eq0-clause-found c = search rules

pub returns-else-reference-eq0-clause-none : goal.returns-else-reference-eq0-clause-none
returns-else-reference-eq0-clause-none c = search rules

pub returns-else-reference-eq0-clause-some : goal.returns-else-reference-eq0-clause-some
returns-else-reference-eq0-clause-some c = grind (arith, common_steps)

pub returns-then-reference-eq0-clause-found : goal.returns-then-reference-eq0-clause-found
returns-then-reference-eq0-clause-found c = search rules

pub returns-then-reference-eq0-clause-none : goal.returns-then-reference-eq0-clause-none
returns-then-reference-eq0-clause-none c = search rules

pub returns-then-reference-eq0-clause-some : goal.returns-then-reference-eq0-clause-some
returns-then-reference-eq0-clause-some c = search rules
