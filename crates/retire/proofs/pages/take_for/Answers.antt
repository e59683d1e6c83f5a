use Rattle.std.proofs.Common.{arith, subst, sym, rules}
use Rattle.retire.specs.body.Allocation.{IsAllocation}
use Rattle.retire.proofs.SharingLemmas.{own_counted}
use Rattle.retire.proofs.AllocationLemmas.{equal_shared, own_held, shared_too}
use Rattle.retire.proofs.pages.take_for.Goals as goal

pub share-requires : goal.share-requires
share-requires g c = let room = c.requires.room in let long = own_counted _ _ _ _ c.requires.passing.counted c.in-Some.ensures.some in (omega (arith, c.requires.limit), omega (arith, long, room))

pub returns-in-Some-clause-allocation : goal.returns-in-Some-clause-allocation
returns-in-Some-clause-allocation g c = let view = c.args.operator.now.view in
    subst (IsAllocation view) (sym c.share.ensures) (shared_too view c.args.allocation.now c.requires.allocation c.in-Some.own.now (own_held view _ _ _ _ c.requires.held c.in-Some.ensures.some))

pub returns-in-Some-clause-one_more : goal.returns-in-Some-clause-one_more
returns-in-Some-clause-one_more g c = equal_shared c.args.operator.now.view _ _ _ c.args.allocation.now c.share.new.self c.in-Some.own.now c.requires.passing.counted c.in-Some.ensures.some c.share.ensures

pub returns-in-None-clause-one_more : goal.returns-in-None-clause-one_more
returns-in-None-clause-one_more g c = search rules

pub returns-in-None-clause-passing : goal.returns-in-None-clause-passing
returns-in-None-clause-passing g c = search rules

pub returns-in-None-clause-same : goal.returns-in-None-clause-same
returns-in-None-clause-same g c = search rules

pub returns-in-None-clause-allocation : goal.returns-in-None-clause-allocation
returns-in-None-clause-allocation g c = search rules

pub returns-in-Some-clause-passing : goal.returns-in-Some-clause-passing
returns-in-Some-clause-passing g c = search rules

pub returns-in-Some-clause-same : goal.returns-in-Some-clause-same
returns-in-Some-clause-same g c = search rules
