use Rattle.std.proofs.Common.{◌∙◌, ap, refl}
use Rattle.std.proofs.lemmas.List.Sorted.{IsPermutation-refl, IsPermutation-trans}
use Rattle.read_section.specs.body.Order.{moved_to_end}
use Rattle.read_section.proofs.OrderLemmas.{first_of_lines_moved_more, first_of_lines_moved_none}
use Rattle.read_section.proofs.worker_order.move_first_of_lines.Goals as goal

pub loop-line-preserved : goal.loop-line-preserved
loop-line-preserved c = (
  IsPermutation-trans _ _ _ c.loop-line.invariant.0 c.move_to_end.ensures.same_workers,
  c.move_to_end.ensures.count ∙ c.loop-line.invariant.1,
  c.move_to_end.ensures.moved ∙ ap (moved_to_end _) c.loop-line.invariant.2 ∙ first_of_lines_moved_more c.args.left c.loop-line.line _,
)

pub loop-line-init : goal.loop-line-init
loop-line-init c = (IsPermutation-refl c.args.workers.now.items, refl, first_of_lines_moved_none c.args.left c.args.workers.now.items)
