use Rattle.std.proofs.Common.{◌∙◌, ◌+◌, ◌%◌, ◌^◌, ◌++◌, ◌∷◌, [], ap, arith, rules, sym, ℕ}
use Rattle.dispatch.specs.body.Starts.{begun, numbered}
use Rattle.dispatch.proofs.WorkerLemmas.{one_more_number, one_more_numbered}
use Rattle.dispatch.proofs.workers.start_each.Goals as goal

pub loop-job-preserved : goal.loop-job-preserved
loop-job-preserved g c =
    let h = c.loop-job.invariant in let is = c.if-not-start_one.false in let job = c.in-Some.job in let jobs = c.loop-job.yielded in
    let more = c.start_one.ensures.one_more is in let capacity = c.start_one.ensures.capacity in let left = c.in-Some.ensures.steps.1 in
    let counted = h.4 in let room = h.5 in
    let same = c.start_one.ensures.started is ∙ (ap (λ earlier. earlier ++ begun job c.loop-job.number c.len-step.result c.args.gate.now ∷ []) h.2
    ∙ (ap (λ (number : ℕ). numbered (λ job number. begun job number c.len-step.result c.args.gate.now) 1 jobs ++ begun job number c.len-step.result c.args.gate.now ∷ []) h.3
    ∙ sym (one_more_numbered (λ job number. begun job number c.len-step.result c.args.gate.now) 1 jobs job))) in
    (tt, tt, same, ap (λ (number : ℕ). (number + 1) % 2 ^ 64) h.3 ∙ sym (one_more_number 1 jobs job), omega arith, omega arith)

pub returns-clause-no_more : goal.returns-clause-no_more
returns-clause-no_more g c = let counted = c.loop-job.invariant.4 in omega arith

pub returns-clause-one_a_job : goal.returns-clause-one_a_job
returns-clause-one_a_job g c = let counted = c.loop-job.invariant.4 in let none = c.in-None.ensures.steps.0 in λ _. omega arith

pub returns-clause-spawn_failed : goal.returns-clause-spawn_failed
returns-clause-spawn_failed g c = search rules

pub returns-then-not-start_one-clause-no_more : goal.returns-then-not-start_one-clause-no_more
returns-then-not-start_one-clause-no_more g c =
    let counted = c.loop-job.invariant.4 in let same = c.start_one.ensures.no_more c.if-not-start_one.true in omega arith

pub returns-then-not-start_one-clause-one_a_job : goal.returns-then-not-start_one-clause-one_a_job
returns-then-not-start_one-clause-one_a_job g c = search rules

pub returns-then-not-start_one-clause-spawn_failed : goal.returns-then-not-start_one-clause-spawn_failed
returns-then-not-start_one-clause-spawn_failed g c =
    let counted = c.loop-job.invariant.4 in let left = c.in-Some.ensures.steps.1 in λ _. omega arith

pub returns-then-not-start_one-clause-started : goal.returns-then-not-start_one-clause-started
returns-then-not-start_one-clause-started g c = search rules
