use Rattle.std.proofs.Common.{◌≡◌, IsPermutation}
use Rattle.std.specs.Prelude.{vec_len}
use Rattle.read_section.specs.body.Order.{first_of_lines_moved}
use Rattle.read_section.proofs.worker_order.move_first_of_lines.Given as goal

abbrev pub invariant-loop-line : goal.invariant-loop-line
invariant-loop-line l =
    IsPermutation l.fn.workers.items l.workers.items
    × (vec_len l.workers ≡ vec_len l.fn.workers)
    × (l.workers.items ≡ first_of_lines_moved l.fn.left l.line l.fn.workers.items)
