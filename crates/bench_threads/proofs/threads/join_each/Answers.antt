use Rattle.std.proofs.Common.{arith}
use Rattle.bench_threads.proofs.MadeLemmas.{one_more_made}
use Rattle.bench_threads.proofs.threads.join_each.Goals as goal

pub loop-handle-preserved : goal.loop-handle-preserved
loop-handle-preserved g c =
    let h = c.loop-handle.invariant in let pushed = c.in-Ok.ensures in let left = c.in-Some.ensures.steps.1 in
    let counted = h.3 in let room = h.4 in let len = pushed.len in let capacity = pushed.capacity in
    let made = one_more_made (λ h. h.promise.0.value) c.loop-handle.yielded c.loop-handle.workers.items c.push.new.self.items c.in-Some.handle c.join.result pushed.items h.2
    c.join.ensures in
    (tt, tt, made, omega arith, omega arith)
