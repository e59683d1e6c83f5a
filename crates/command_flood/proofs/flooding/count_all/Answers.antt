use Rattle.std.proofs.Common.{arith, rules}
use Rattle.std.proofs.lemmas.List.Sorted.{All-permutation}
use Rattle.command_flood.specs.FloodVersions.{opening_version}
use Rattle.command_flood.proofs.flooding.count_all.Goals as goal
use Rattle.dispatch.specs.Counted.{IsNewWorker}
use Rattle.command_flood.proofs.FloodLemmas.{is_flooded}

pub count_jobs-requires : goal.count_jobs-requires
count_jobs-requires g c =
    let table = c.in_ok-tally.tally.table in let opened = c.in_ok-tally.ensures.counters in let made = c.in_ok-jobs.ensures in
    let given = opened.count in let taken = made.left in let one_a_worker = made.one_a_worker in
    let of_all = c.in_ok-tally.spare.ok.0 in let of_spare = c.jobs.new.counters.ok.0 in let of_jobs = c.in_ok-jobs.jobs.ok.0 in
    (c.type_bounds.sync-R, (c.type_bounds.sync-G, record { all_counters = omega arith; new_spare = made.new table opened.each; new_counters = made.counters table opened.each }))

pub returns-clause-totals : goal.returns-clause-totals
returns-clause-totals g c =
    let table = c.in_ok-tally.tally.table in let opened = c.in_ok-tally.ensures.counters in let made = c.in_ok-jobs.ensures in
    let versions = c.in_ok-operator.operator.table in
    is_flooded c.count_jobs.result table c.in_ok-jobs.jobs.items versions c.args.workers c.args.datagrams (made.counters table opened.each)
    (made.workers versions (All-permutation (IsNewWorker opening_version versions) _ _ c.spread.ensures.same_workers c.in_ok-operator.ensures.opening))
    made.buffers made.starts c.count_jobs.ensures.totals

pub returns-in_err-jobs-clause-run_fault : goal.returns-in_err-jobs-clause-run_fault
returns-in_err-jobs-clause-run_fault g c = search rules

pub returns-in_err-jobs-clause-totals : goal.returns-in_err-jobs-clause-totals
returns-in_err-jobs-clause-totals g c = search rules

pub returns-in_err-operator-clause-run_fault : goal.returns-in_err-operator-clause-run_fault
returns-in_err-operator-clause-run_fault g c = search rules

pub returns-in_err-operator-clause-totals : goal.returns-in_err-operator-clause-totals
returns-in_err-operator-clause-totals g c = search rules

pub returns-in_err-tally-clause-run_fault : goal.returns-in_err-tally-clause-run_fault
returns-in_err-tally-clause-run_fault g c = search rules

pub returns-in_err-tally-clause-totals : goal.returns-in_err-tally-clause-totals
returns-in_err-tally-clause-totals g c = search rules
