use Rattle.std.proofs.Common.{rules, subst, vec_len}
use Rattle.dispatch.specs.Workers.{IsDone, IsGatedDone}
use Rattle.dispatch.specs.body.Starts.{AreEach, begun}
use Rattle.dispatch.proofs.WorkerLemmas.{each_by, jobs_done, jobs_gated}
use Rattle.dispatch.proofs.workers.run_in.Goals as goal

pub returns-else-all_started-clause-done : goal.returns-else-all_started-clause-done
returns-else-all_started-clause-done c = search rules

pub returns-else-all_started-clause-one_done_a_job : goal.returns-else-all_started-clause-one_done_a_job
returns-else-all_started-clause-one_done_a_job c = search rules

pub returns-else-all_started-clause-side_was_run : goal.returns-else-all_started-clause-side_was_run
returns-else-all_started-clause-side_was_run c = search rules

pub returns-else-all_started-clause-spawn_failed : goal.returns-else-all_started-clause-spawn_failed
returns-else-all_started-clause-spawn_failed c = search rules

pub returns-else-all_started-clause-gate_called : goal.returns-else-all_started-clause-gate_called
returns-else-all_started-clause-gate_called c = search rules

pub returns-in-Err-clause-gate_called : goal.returns-in-Err-clause-gate_called
returns-in-Err-clause-gate_called c = search rules

pub returns-in-Err-clause-done : goal.returns-in-Err-clause-done
returns-in-Err-clause-done c = search rules

pub returns-in-Err-clause-one_done_a_job : goal.returns-in-Err-clause-one_done_a_job
returns-in-Err-clause-one_done_a_job c = search rules

pub returns-in-Err-clause-side_was_run : goal.returns-in-Err-clause-side_was_run
returns-in-Err-clause-side_was_run c = search rules

pub returns-in-Err-clause-spawn_failed : goal.returns-in-Err-clause-spawn_failed
returns-in-Err-clause-spawn_failed c = search rules

pub returns-then-all_started-clause-done : goal.returns-then-all_started-clause-done
returns-then-all_started-clause-done g c =
    let called = g.G.Gate.called in let jobs = c.args.jobs.items in let results = c.join_each.new.results.items in
    jobs_done g.S.Source g.O.Outbox (called c.args.gate.now) (vec_len c.args.jobs) (λ job number. begun job number (vec_len c.args.jobs) c.args.gate.now)
    (λ start done. IsDone g.S.Source g.O.Outbox start.job done × IsGatedDone g.S.Source g.O.Outbox (called start.gate) start.step start.number start.job done)
    (λ number job done both. both) 1 jobs results
    (subst (λ starts. AreEach (λ start done. IsDone g.S.Source g.O.Outbox start.job done
    × IsGatedDone g.S.Source g.O.Outbox (called start.gate) start.step start.number start.job done) starts results)
    (c.start_each-all_started.ensures.started c.if-all_started.true)
    (each_by _ _ (λ h. h.promise) (λ h. begun h.promise.job.value h.promise.numbers.0 h.promise.numbers.1 h.promise.gate.value) (λ h done kept. kept) c.start_each-all_started.new.handles.items results c.join_each.ensures.kept))

pub returns-then-all_started-clause-gate_called : goal.returns-then-all_started-clause-gate_called
returns-then-all_started-clause-gate_called g c =
    let called = g.G.Gate.called in let jobs = c.args.jobs.items in let results = c.join_each.new.results.items in
    jobs_gated g.S.Source g.O.Outbox (called c.args.gate.now) (vec_len c.args.jobs) (λ job number. begun job number (vec_len c.args.jobs) c.args.gate.now)
    (λ start done. IsDone g.S.Source g.O.Outbox start.job done × IsGatedDone g.S.Source g.O.Outbox (called start.gate) start.step start.number start.job done)
    (λ number job done both. both) 1 jobs results
    (subst (λ starts. AreEach (λ start done. IsDone g.S.Source g.O.Outbox start.job done
    × IsGatedDone g.S.Source g.O.Outbox (called start.gate) start.step start.number start.job done) starts results)
    (c.start_each-all_started.ensures.started c.if-all_started.true)
    (each_by _ _ (λ h. h.promise) (λ h. begun h.promise.job.value h.promise.numbers.0 h.promise.numbers.1 h.promise.gate.value) (λ h done kept. kept) c.start_each-all_started.new.handles.items results c.join_each.ensures.kept))

pub returns-then-all_started-clause-one_done_a_job : goal.returns-then-all_started-clause-one_done_a_job
returns-then-all_started-clause-one_done_a_job c = search rules

pub returns-then-all_started-clause-side_was_run : goal.returns-then-all_started-clause-side_was_run
returns-then-all_started-clause-side_was_run c = search rules

pub returns-then-all_started-clause-spawn_failed : goal.returns-then-all_started-clause-spawn_failed
returns-then-all_started-clause-spawn_failed c = search rules
