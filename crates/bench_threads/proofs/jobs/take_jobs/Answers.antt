use Rattle.std.proofs.Common.{◌≡◌, ◌∙◌, ◌-◌, List, Some, ap, arith, length, refl, sym, ℕ}
use Rattle.std.proofs.lemmas.Option.{slice_get_read}
use Rattle.std.specs.List.{slice_get}
use Rattle.read_section.specs.Worker.{WorkerValue}
use Rattle.bench_threads.specs.declared.threads.Job.{Job}
use Rattle.bench_threads.specs.Placing.{distance, number_at}
use Rattle.bench_threads.proofs.JobLemmas.{distance-more, slice_get-below, taken-push}
use Rattle.bench_threads.proofs.jobs.take_jobs.Goals as goal

pub overflow_sub-above : goal.overflow_sub-above
overflow_sub-above c = let more = distance-more (distance c.args.placing c.args.threads) c.args.threads c.loop-thread._thread (omega arith) in
    let before = c.loop-thread.invariant.0 in omega arith

pub loop-thread-preserved : goal.loop-thread-preserved
loop-thread-preserved c =
    let thread = c.loop-thread._thread in let above = c.loop-thread.above in let before = c.loop-thread.invariant in
    let workers : List WorkerValue = c.args.workers.now.items in let left : List WorkerValue = c.loop-thread.workers.items in
    let worker : WorkerValue = c.remove-worker.result in let later : List WorkerValue = c.remove-worker.new.self.items in
    let job : Job = record { worker = worker; rounds = c.args.rounds } in
    let removed = c.remove-worker.ensures in let pushed = c.in_ok-push.ensures in let apart = c.distance-distance.ensures in
    let more = distance-more (distance c.args.placing c.args.threads) c.args.threads thread c.loop-thread-test.true in
    let is_above = before.0 in let in_table = before.1 in let count_left = before.2 in let count_jobs = before.3 in
    let of_left = c.loop-thread.workers.ok.0 in let of_later = c.remove-worker.new.self.ok.0 in let of_jobs = c.loop-thread.jobs.ok.0 in
    let shorter = removed.len in let longer = pushed.len in let at_least_one = apart.at_least_one in let distance_is = apart.distance in
    let stands : slice_get workers (number_at c.args.placing c.args.threads thread) ≡ Some worker =
    ap (λ (n : ℕ). slice_get workers (n - 1)) (sym is_above)
    ∙ (sym (before.4 (above - 1) (omega arith)) ∙ slice_get_read left (length left) (above - 1) worker refl (omega arith) removed.value) in (
      omega arith,
      omega arith,
      omega arith,
      omega arith,
      λ k low. slice_get-below left later worker (above - 1) k removed.by_index.0 (omega arith) (omega arith) (omega arith) ∙ before.4 k (omega arith),
      taken-push c.args.placing c.args.threads c.args.rounds workers c.loop-thread.jobs.items c.push.new.self.items job thread (omega arith) refl stands pushed.items before.5,
    )
