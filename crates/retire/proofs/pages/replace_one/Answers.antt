use Rattle.std.proofs.Common.{arith, subst, sym, take}
use Rattle.retire.specs.body.Allocation.{IsAllocation}
use Rattle.retire.proofs.ReplacedLemmas.{front_held, front_allocated, length-front, nothing}
use Rattle.retire.proofs.AllocationLemmas.{none_allocated, shared_too}
use Rattle.retire.proofs.pages.replace_one.Goals as goal

pub take_for-requires : goal.take_for-requires
take_for-requires g c = let view = c.args.operator.now.view in let current_pages = c.args.current.now.pages.now in
    let front = front_allocated c.args.allocation.now c.share.new.self current_pages c.pages-pages.result.now c.args.at c.requires.none c.pages-pages.ensures c.share.ensures in
    let room = length-front c.share.new.self current_pages c.args.at front (omega (arith, c.requires.inside)) in
    let allocation = subst (IsAllocation view) (sym front) (shared_too view nothing (none_allocated view) (take c.args.at current_pages) (front_held view current_pages c.requires.held c.args.at)) in
    (omega (arith, c.requires.limit), (c.requires.row, (c.requires.passing, (c.requires.held, (omega (arith, room, c.requires.room, c.requires.inside), (c.requires.limit, allocation))))))
