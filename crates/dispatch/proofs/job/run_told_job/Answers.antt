use Rattle.std.proofs.Common.{subst, ℕ}
use Rattle.dispatch.specs.Batch.{IsBatch, Parts}
use Rattle.dispatch.proofs.JobLemmas.{and_again, calls_for, is_gated, is_over, not_begun}
use Rattle.dispatch.proofs.job.run_told_job.Goals as goal

pub loop-init : goal.loop-init
loop-init g c = not_begun _ _ _ _ _ _ (record { worker = c.args.worker.now; counter = c.args.counter.now; source = g.S.Source.state c.args.source.now; outbox = g.O.Outbox.state c.args.outbox.now })

pub returns-then-not-goes_on : goal.returns-then-not-goes_on
returns-then-not-goes_on g c =
    let before : Parts = record { worker = c.loop.worker; counter = c.loop.counter; source = g.S.Source.state c.loop.source; outbox = g.O.Outbox.state c.loop.outbox } in
    let after : Parts = record { worker = c.batch-answer.new.worker; counter = c.batch-answer.new.counter; source = g.S.Source.state c.batch-answer.new.source; outbox = g.O.Outbox.state c.batch-answer.new.outbox } in
    let last = subst (λ (room : ℕ). IsBatch room c.args.limit before after c.batch-answer.result) c.loop.auto.buf c.batch-answer.ensures.batch in
    let over = c.goes_on.ensures.ends c.if-not-goes_on.true in
    let calls = calls_for _ _ _ _ c.start.ensures.called c.start.ensures.same_gate c.done.ensures.called c.done.ensures.same_gate in record {
      told = is_over _ _ _ _ _ _ _ _ _ _ _ _ _ before after c.batch-answer.result c.loop.invariant c.start.ensures.logged c.done.ensures.logged calls last over;
      gate_called = is_gated _ _ _ _ _ _ _ _ _ _ _ _ _ before after c.batch-answer.result c.loop.invariant c.start.ensures.logged c.done.ensures.logged calls last over;
    }

pub loop-preserved : goal.loop-preserved
loop-preserved g c =
    let before : Parts = record { worker = c.loop.worker; counter = c.loop.counter; source = g.S.Source.state c.loop.source; outbox = g.O.Outbox.state c.loop.outbox } in
    let after : Parts = record { worker = c.batch-answer.new.worker; counter = c.batch-answer.new.counter; source = g.S.Source.state c.batch-answer.new.source; outbox = g.O.Outbox.state c.batch-answer.new.outbox } in
    let last = subst (λ (room : ℕ). IsBatch room c.args.limit before after c.batch-answer.result) c.loop.auto.buf c.batch-answer.ensures.batch in
    let calls = calls_for _ _ _ _ c.start.ensures.called c.start.ensures.same_gate c.done.ensures.called c.done.ensures.same_gate in
    and_again _ _ _ _ _ _ _ _ _ _ _ _ _ before after c.batch-answer.result c.loop.invariant c.start.ensures.logged c.done.ensures.logged calls last (c.goes_on.ensures.goes_on c.if-not-goes_on.false)
