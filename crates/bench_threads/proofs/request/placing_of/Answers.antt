use Rattle.std.proofs.Common.{rules}
use Rattle.bench_threads.proofs.request.placing_of.Goals as goal

pub returns-in-text : goal.returns-in-text
returns-in-text c = search rules
