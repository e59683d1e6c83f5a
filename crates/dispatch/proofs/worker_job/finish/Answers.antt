use Rattle.std.proofs.Common.{arith, rules}
use Rattle.std.proofs.lemmas.Grind.{common_steps}
use Rattle.dispatch.proofs.worker_job.finish.Goals as goal

pub returns-clause-done_by_batches : goal.returns-clause-done_by_batches
returns-clause-done_by_batches g c = search rules

pub returns-clause-same_room : goal.returns-clause-same_room
returns-clause-same_room g c = grind (arith, common_steps)
