use Rattle.std.proofs.Common.{arith}
use Rattle.dispatch.proofs.WorkerLemmas.{one_more_done}
use Rattle.dispatch.proofs.workers.join_each.Goals as goal

pub loop-handle-preserved : goal.loop-handle-preserved
loop-handle-preserved g c =
    let h = c.loop-handle.invariant in let pushed = c.push_reserved.ensures in let left = c.in-Some.ensures.steps.1 in
    let counted = h.3 in let room = h.4 in let len = pushed.len in let capacity = pushed.capacity in
    let done = one_more_done g.P.Promise.kept_by (λ h. h.promise) c.loop-handle.yielded c.loop-handle.results.items c.push_reserved.new.self.items c.in-Some.handle
    c.join.result pushed.items h.2 c.join.ensures in
    (tt, tt, done, omega arith, omega arith)
