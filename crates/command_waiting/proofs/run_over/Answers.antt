use Rattle.std.proofs.Common.{rules}
use Rattle.command_streams.proofs.OutputLemmas.{ends_borrow, once_borrow}
use Rattle.command_waiting.proofs.FailureLemmas.{table_borrow}
use Rattle.command_waiting.proofs.run_over.Goals as goal

pub returns-in-Flood-clause-done : goal.returns-in-Flood-clause-done
returns-in-Flood-clause-done g c = search rules

pub returns-in-Flood-clause-failed : goal.returns-in-Flood-clause-failed
returns-in-Flood-clause-failed g c = search rules

pub returns-in-Flood-clause-never_misused : goal.returns-in-Flood-clause-never_misused
returns-in-Flood-clause-never_misused g c = search rules

pub returns-in-Flood-clause-no_errors : goal.returns-in-Flood-clause-no_errors
returns-in-Flood-clause-no_errors g c = search rules

pub returns-in-Flood-clause-refused : goal.returns-in-Flood-clause-refused
returns-in-Flood-clause-refused g c = search rules

pub returns-in-Serve-clause-done : goal.returns-in-Serve-clause-done
returns-in-Serve-clause-done g c = search rules

pub returns-in-Serve-clause-failed : goal.returns-in-Serve-clause-failed
returns-in-Serve-clause-failed g c = search rules

pub returns-in-Serve-clause-never_misused : goal.returns-in-Serve-clause-never_misused
returns-in-Serve-clause-never_misused g c = search rules

pub returns-in-Serve-clause-no_errors : goal.returns-in-Serve-clause-no_errors
returns-in-Serve-clause-no_errors g c = search rules

pub returns-in-Serve-clause-refused : goal.returns-in-Serve-clause-refused
returns-in-Serve-clause-refused g c = λ ended. rw c.in-Serve.is (c.run_serve.ensures.refused ended)

pub returns-in-Tell-clause-done : goal.returns-in-Tell-clause-done
returns-in-Tell-clause-done g c = search rules

pub returns-in-Tell-clause-never_misused : goal.returns-in-Tell-clause-never_misused
returns-in-Tell-clause-never_misused g c = search rules

pub returns-in-Tell-clause-no_errors : goal.returns-in-Tell-clause-no_errors
returns-in-Tell-clause-no_errors g c = search rules

pub returns-in-Tell-clause-refused : goal.returns-in-Tell-clause-refused
returns-in-Tell-clause-refused g c = search rules

pub returns-in-Flood-clause-borrow_kept : goal.returns-in-Flood-clause-borrow_kept
returns-in-Flood-clause-borrow_kept g c = ends_borrow _ _ _ _ c.run_flood.ensures.device_failed

pub returns-in-Serve-clause-borrow_kept : goal.returns-in-Serve-clause-borrow_kept
returns-in-Serve-clause-borrow_kept g c = once_borrow _ _ _ _ _ _ c.run_serve.ensures.device_failed

pub returns-in-Tell-clause-borrow_kept : goal.returns-in-Tell-clause-borrow_kept
returns-in-Tell-clause-borrow_kept g c = once_borrow _ _ _ _ _ _ c.run_tell.ensures.device_failed

pub returns-in-Rules-clause-borrow_kept : goal.returns-in-Rules-clause-borrow_kept
returns-in-Rules-clause-borrow_kept g c = ends_borrow _ _ _ _ c.run_rules.ensures.device_failed

pub returns-in-Load-clause-borrow_kept : goal.returns-in-Load-clause-borrow_kept
returns-in-Load-clause-borrow_kept g c = once_borrow _ _ _ _ _ _ c.run_load.ensures.device_failed

pub returns-in-Drain-clause-borrow_kept : goal.returns-in-Drain-clause-borrow_kept
returns-in-Drain-clause-borrow_kept g c = ends_borrow _ _ _ _ c.run_drain.ensures.device_failed

pub returns-in-Metrics-clause-borrow_kept : goal.returns-in-Metrics-clause-borrow_kept
returns-in-Metrics-clause-borrow_kept g c = table_borrow _ _ _ _ _ _ _ _ c.run_metrics.ensures.device_failed

pub returns-in-Top-clause-borrow_kept : goal.returns-in-Top-clause-borrow_kept
returns-in-Top-clause-borrow_kept g c = ends_borrow _ _ _ _ c.run_top.ensures.device_failed
