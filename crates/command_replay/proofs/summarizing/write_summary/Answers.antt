use Rattle.std.proofs.Common.{rules}
use Rattle.command_replay.proofs.summarizing.write_summary.Goals as goal

pub returns-clause-beginning : goal.returns-clause-beginning
returns-clause-beginning g c = search rules

pub returns-clause-done : goal.returns-clause-done
returns-clause-done g c = search rules

pub returns-clause-failed : goal.returns-clause-failed
returns-clause-failed g c = search rules

pub returns-clause-no_memory : goal.returns-clause-no_memory
returns-clause-no_memory g c = search rules

pub returns-clause-written : goal.returns-clause-written
returns-clause-written g c = search rules
