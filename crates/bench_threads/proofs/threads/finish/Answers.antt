use Rattle.std.proofs.Common.{rules}
use Rattle.bench_threads.proofs.threads.finish.Goals as goal

pub returns : goal.returns
returns c = search rules
