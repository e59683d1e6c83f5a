use Rattle.std.proofs.Common.{rules}
use Rattle.command_flood.proofs.flooding.failed.Goals as goal

pub returns-in-SpawnFailed-clause-spawn_failed : goal.returns-in-SpawnFailed-clause-spawn_failed
returns-in-SpawnFailed-clause-spawn_failed c = search rules
