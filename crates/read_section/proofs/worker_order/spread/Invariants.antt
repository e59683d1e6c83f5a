use Rattle.std.proofs.Common.{◌≡◌, IsPermutation}
use Rattle.std.specs.Prelude.{vec_len}
use Rattle.read_section.specs.body.Order.{first_moved, lines_moved}
use Rattle.read_section.proofs.worker_order.spread.Given as goal

abbrev pub invariant-loop-first : goal.invariant-loop-first
invariant-loop-first l =
    IsPermutation l.fn.workers.items l.workers.items
    × (vec_len l.workers ≡ vec_len l.fn.workers)
    × (l.workers.items ≡ first_moved l._first l.fn.workers.items)

abbrev pub invariant-loop-moved : goal.invariant-loop-moved
invariant-loop-moved l =
    IsPermutation l.fn.workers.items l.workers.items
    × (vec_len l.workers ≡ vec_len l.fn.workers)
    × (l.workers.items ≡ lines_moved l.moved (first_moved 7 l.fn.workers.items))
