use Rattle.std.proofs.Common.{rules}
use Rattle.command_replay.proofs.replaying.run_replay.Goals as goal

pub returns-in-false-false-clause-failed : goal.returns-in-false-false-clause-failed
returns-in-false-false-clause-failed g c = search rules

pub returns-in-false-false-clause-failed_written : goal.returns-in-false-false-clause-failed_written
returns-in-false-false-clause-failed_written g c = search rules

pub returns-in-false-false-clause-written : goal.returns-in-false-false-clause-written
returns-in-false-false-clause-written g c = search rules

pub returns-in-false-true-clause-failed : goal.returns-in-false-true-clause-failed
returns-in-false-true-clause-failed g c = search rules

pub returns-in-false-true-clause-failed_written : goal.returns-in-false-true-clause-failed_written
returns-in-false-true-clause-failed_written g c = search rules

pub returns-in-false-true-clause-written : goal.returns-in-false-true-clause-written
returns-in-false-true-clause-written g c = search rules

pub returns-in-true-false-clause-failed : goal.returns-in-true-false-clause-failed
returns-in-true-false-clause-failed g c = search rules

pub returns-in-true-false-clause-failed_written : goal.returns-in-true-false-clause-failed_written
returns-in-true-false-clause-failed_written g c = search rules

pub returns-in-true-false-clause-written : goal.returns-in-true-false-clause-written
returns-in-true-false-clause-written g c = search rules

pub returns-in-true-true-clause-failed : goal.returns-in-true-true-clause-failed
returns-in-true-true-clause-failed g c = search rules

pub returns-in-true-true-clause-failed_written : goal.returns-in-true-true-clause-failed_written
returns-in-true-true-clause-failed_written g c = search rules

pub returns-in-true-true-clause-written : goal.returns-in-true-true-clause-written
returns-in-true-true-clause-written g c = search rules
