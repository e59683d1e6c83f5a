use Rattle.std.proofs.Common.{subst, sym, arith}
use Rattle.std.proofs.lemmas.Grind.{common_steps}
use Rattle.read_section.specs.Worker.{WorkerValue}
use Rattle.read_section.specs.body.Found.{IsExtentIn}
use Rattle.read_section.proofs.reading.find_extent.Goals as goal

pub insert_extent-requires-clause-is : goal.insert_extent-requires-clause-is
insert_extent-requires-clause-is c = let few = c.search_extent-extent.ensures.few in subst (λ (v : WorkerValue). IsExtentIn v.view c.search_extent-extent.result) (sym few.2.only) c.search_extent-extent.ensures.found

pub returns-in-Some-clause-found : goal.returns-in-Some-clause-found
returns-in-Some-clause-found c = grind (arith, common_steps)
