use Rattle.std.proofs.Common.{arith, rules}
use Rattle.std.proofs.lemmas.Grind.{common_steps}
use Rattle.command_query.proofs.command_result.CommandResultDisplay.fmt.Goals as goal

pub returns-in-Accepted-clause-styled : goal.returns-in-Accepted-clause-styled
returns-in-Accepted-clause-styled g c = search rules

pub returns-in-Accepted-clause-writes : goal.returns-in-Accepted-clause-writes
returns-in-Accepted-clause-writes g c = search rules

pub returns-in-Compiled-clause-styled : goal.returns-in-Compiled-clause-styled
returns-in-Compiled-clause-styled g c = search rules

pub returns-in-Compiled-clause-writes : goal.returns-in-Compiled-clause-writes
returns-in-Compiled-clause-writes g c = grind (arith, common_steps)

pub returns-in-Explained-clause-styled : goal.returns-in-Explained-clause-styled
returns-in-Explained-clause-styled g c = search rules

pub returns-in-Explained-clause-writes : goal.returns-in-Explained-clause-writes
returns-in-Explained-clause-writes g c = search rules

pub returns-in-Judged-false-clause-styled : goal.returns-in-Judged-false-clause-styled
returns-in-Judged-false-clause-styled g c = search rules

pub returns-in-Judged-false-clause-writes : goal.returns-in-Judged-false-clause-writes
returns-in-Judged-false-clause-writes g c = search rules

pub returns-in-Judged-true-clause-styled : goal.returns-in-Judged-true-clause-styled
returns-in-Judged-true-clause-styled g c = search rules

pub returns-in-Judged-true-clause-writes : goal.returns-in-Judged-true-clause-writes
returns-in-Judged-true-clause-writes g c = search rules

pub returns-in-Listed-clause-styled : goal.returns-in-Listed-clause-styled
returns-in-Listed-clause-styled g c = search rules

pub returns-in-Listed-clause-writes : goal.returns-in-Listed-clause-writes
returns-in-Listed-clause-writes g c = search rules

pub returns-in-Packed-clause-styled : goal.returns-in-Packed-clause-styled
returns-in-Packed-clause-styled g c = search rules

pub returns-in-Packed-clause-writes : goal.returns-in-Packed-clause-writes
returns-in-Packed-clause-writes g c = search rules

pub returns-in-Ran-clause-styled : goal.returns-in-Ran-clause-styled
returns-in-Ran-clause-styled g c = search rules

pub returns-in-Ran-clause-writes : goal.returns-in-Ran-clause-writes
returns-in-Ran-clause-writes g c = grind (arith, common_steps)

pub returns-in-Versions-clause-styled : goal.returns-in-Versions-clause-styled
returns-in-Versions-clause-styled g c = search rules

pub returns-in-Versions-clause-writes : goal.returns-in-Versions-clause-writes
returns-in-Versions-clause-writes g c = grind (arith, common_steps)
