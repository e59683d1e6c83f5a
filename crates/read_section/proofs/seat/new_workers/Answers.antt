use Rattle.std.proofs.Common.{arith, subst, sym, List, ◌+◌, ◌≡◌}
use Rattle.std.specs.Arc.{arc_value}
use Rattle.versions.specs.declared.layout.TheConstants.{WORKERS}
use Rattle.versions.specs.Table.{the_shape}
use Rattle.versions.proofs.ShapeLemmas.{workers_is}
use Rattle.read_section.specs.body.Seat.{IsSeating}
use Rattle.read_section.specs.Worker.{WorkerValue}
use Rattle.read_section.proofs.OpeningLemmas.{all_workers, no_workers_yet, one_worker_more, workers_so_far}
use Rattle.read_section.proofs.seat.new_workers.Goals as goal

pub loop-number-init : goal.loop-number-init
loop-number-init c = (c.requires.seating, c.requires.seat, subst (λ (l : List WorkerValue). workers_so_far (arc_value c.args.table.now).shared.key (arc_value c.args.table.now).shared.table_id l 0) (sym c.in_ok-workers.ensures.items) (no_workers_yet _ _))

pub new_worker-requires-clause-number : goal.new_worker-requires-clause-number
new_worker-requires-clause-number c = let low = c.loop-number-test.true in omega (arith, workers_is)

pub loop-number-preserved : goal.loop-number-preserved
loop-number-preserved c = let h = c.loop-number.invariant in let made = c.in_ok-new_worker.ensures in (
  made.seating,
  made.seat,
  subst (λ (l : List WorkerValue). workers_so_far (arc_value c.args.table.now).shared.key (arc_value c.args.table.now).shared.table_id l (c.loop-number.number + 1)) (sym {A = List WorkerValue} c.in_ok-push.ensures.items)
      (one_worker_more _ _ c.loop-number.workers.items _ c.loop-number.number h.2 made.worker),
)

pub returns-clause-seating : goal.returns-clause-seating
returns-clause-seating c = let stop = c.loop-number-test.false in let end = c.loop-number.auto.number-end in let all : c.loop-number.number ≡ the_shape.workers = omega (arith, workers_is) in
    subst (IsSeating c.loop-number.seat.me.0 (arc_value c.args.table.now).shared.key) all c.loop-number.invariant.0

pub returns-clause-workers : goal.returns-clause-workers
returns-clause-workers c = let stop = c.loop-number-test.false in let end = c.loop-number.auto.number-end in let all : c.loop-number.number ≡ WORKERS = omega arith in all_workers _ _ _ c.loop-number.number c.loop-number.invariant.2 all
