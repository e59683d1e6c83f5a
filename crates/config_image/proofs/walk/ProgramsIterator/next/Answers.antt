use Rattle.std.proofs.Common.{arith, rules}
use Rattle.std.proofs.lemmas.Grind.{common_steps}
use Rattle.config_image.proofs.walk.ProgramsIterator.next.Goals as goal

pub groups-preserved : goal.groups-preserved
groups-preserved g c = grind (arith, common_steps)

pub returns-in-Some-filter-clause-goes : goal.returns-in-Some-filter-clause-goes
returns-in-Some-filter-clause-goes g c = search rules

pub returns-in-Some-filter-clause-steps : goal.returns-in-Some-filter-clause-steps
returns-in-Some-filter-clause-steps g c = search rules

pub returns-in-Some-selector-clause-goes : goal.returns-in-Some-selector-clause-goes
returns-in-Some-selector-clause-goes g c = grind (arith, common_steps)

pub returns-in-Some-selector-clause-steps : goal.returns-in-Some-selector-clause-steps
returns-in-Some-selector-clause-steps g c = grind (arith, common_steps)
