use Rattle.std.proofs.Common.{rules}
use Rattle.bench_threads.proofs.placing.Placing.distance.Goals as goal

pub returns-in-Spread-clause-distance : goal.returns-in-Spread-clause-distance
returns-in-Spread-clause-distance c = search rules
