use Rattle.std.proofs.Common.{◌∙◌, List, ap, arith, refl, ℕ}
use Rattle.std.proofs.lemmas.List.Sorted.{IsPermutation-refl, IsPermutation-trans}
use Rattle.read_section.specs.Worker.{WorkerValue}
use Rattle.read_section.specs.body.Order.{first_moved, first_of_lines_moved, lines_moved, moved_to_end}
use Rattle.read_section.proofs.OrderLemmas.{first_moved_more, first_moved_none, is_spread, lines_moved_more, lines_moved_none}
use Rattle.read_section.proofs.worker_order.spread.Goals as goal

pub loop-first-preserved : goal.loop-first-preserved
loop-first-preserved c = (
  IsPermutation-trans _ _ _ c.loop-first.invariant.0 c.move_to_end.ensures.same_workers,
  c.move_to_end.ensures.count ∙ c.loop-first.invariant.1,
  c.move_to_end.ensures.moved ∙ ap (moved_to_end 0) c.loop-first.invariant.2 ∙ first_moved_more c.loop-first._first _,
)

pub loop-moved-preserved : goal.loop-moved-preserved
loop-moved-preserved c = (
  IsPermutation-trans _ _ _ c.loop-moved.invariant.0 c.move_first_of_lines.ensures.same_workers,
  c.move_first_of_lines.ensures.count ∙ c.loop-moved.invariant.1,
  c.move_first_of_lines.ensures.moved ∙ ap (first_of_lines_moved _ 7) c.loop-moved.invariant.2 ∙ lines_moved_more c.loop-moved.moved _,
)

pub returns-clause-same_workers : goal.returns-clause-same_workers
returns-clause-same_workers c = IsPermutation-trans _ _ _ c.loop-moved.invariant.0 c.move_to_end-2.ensures.same_workers

pub returns-clause-order : goal.returns-clause-order
returns-clause-order c all =
    let old : List WorkerValue = c.args.workers.now.items in
    let many = c.args.workers.now.ok.0 in
    is_spread old c.move_to_end-2.new.workers.items (omega (arith, many, all))
    (c.move_to_end-2.ensures.moved
    ∙ ap (moved_to_end 0) (c.loop-moved.invariant.2 ∙ ap (λ (n : ℕ). lines_moved n (first_moved 7 old)) (omega arith)))

pub loop-first-init : goal.loop-first-init
loop-first-init c = (IsPermutation-refl c.args.workers.now.items, refl, first_moved_none c.args.workers.now.items)

pub loop-moved-init : goal.loop-moved-init
loop-moved-init c = (
  c.loop-first.invariant.0,
  c.loop-first.invariant.1,
  c.loop-first.invariant.2 ∙ ap (λ (n : ℕ). first_moved n c.args.workers.now.items) (omega arith) ∙ lines_moved_none (first_moved 7 c.args.workers.now.items),
)
