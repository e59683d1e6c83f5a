use Rattle.std.proofs.Common.{rules}
use Rattle.command_returning.proofs.running.answer.Goals as goal

pub returns-clause-done : goal.returns-clause-done
returns-clause-done g c = search rules

pub returns-clause-done_or_misused : goal.returns-clause-done_or_misused
returns-clause-done_or_misused g c = search rules

pub returns-clause-failed : goal.returns-clause-failed
returns-clause-failed g c = search rules

pub returns-clause-misused : goal.returns-clause-misused
returns-clause-misused g c = search rules

pub returns-clause-no_errors : goal.returns-clause-no_errors
returns-clause-no_errors g c = search rules

pub returns-clause-no_memory : goal.returns-clause-no_memory
returns-clause-no_memory g c = search rules

pub returns-clause-nothing_written : goal.returns-clause-nothing_written
returns-clause-nothing_written g c = search rules

pub returns-clause-untold : goal.returns-clause-untold
returns-clause-untold g c = search rules

pub returns-then-eq-clause-done : goal.returns-then-eq-clause-done
returns-then-eq-clause-done g c = search rules

pub returns-then-eq-clause-done_or_misused : goal.returns-then-eq-clause-done_or_misused
returns-then-eq-clause-done_or_misused g c = search rules

pub returns-then-eq-clause-failed : goal.returns-then-eq-clause-failed
returns-then-eq-clause-failed g c = search rules

pub returns-then-eq-clause-misused : goal.returns-then-eq-clause-misused
returns-then-eq-clause-misused g c = search rules

pub returns-then-eq-clause-no_errors : goal.returns-then-eq-clause-no_errors
returns-then-eq-clause-no_errors g c = search rules

pub returns-then-eq-clause-no_memory : goal.returns-then-eq-clause-no_memory
returns-then-eq-clause-no_memory g c = search rules

pub returns-then-eq-clause-nothing_written : goal.returns-then-eq-clause-nothing_written
returns-then-eq-clause-nothing_written g c = search rules

pub returns-then-eq-clause-untold : goal.returns-then-eq-clause-untold
returns-then-eq-clause-untold g c = search rules

pub returns-then-use_stderr-clause-done : goal.returns-then-use_stderr-clause-done
returns-then-use_stderr-clause-done g c = search rules

pub returns-then-use_stderr-clause-done_or_misused : goal.returns-then-use_stderr-clause-done_or_misused
returns-then-use_stderr-clause-done_or_misused g c = search rules

pub returns-then-use_stderr-clause-failed : goal.returns-then-use_stderr-clause-failed
returns-then-use_stderr-clause-failed g c = search rules

pub returns-then-use_stderr-clause-misused : goal.returns-then-use_stderr-clause-misused
returns-then-use_stderr-clause-misused g c = search rules

pub returns-then-use_stderr-clause-no_errors : goal.returns-then-use_stderr-clause-no_errors
returns-then-use_stderr-clause-no_errors g c = search rules

pub returns-then-use_stderr-clause-no_memory : goal.returns-then-use_stderr-clause-no_memory
returns-then-use_stderr-clause-no_memory g c = search rules

pub returns-then-use_stderr-clause-nothing_written : goal.returns-then-use_stderr-clause-nothing_written
returns-then-use_stderr-clause-nothing_written g c = search rules

pub returns-then-use_stderr-clause-untold : goal.returns-then-use_stderr-clause-untold
returns-then-use_stderr-clause-untold g c = search rules
