use Rattle.std.proofs.Common.{◌+◌, ap, arith, subst, sym, ℕ, rules}
use Rattle.versions.proofs.ShapeLemmas.{pages_is}
use Rattle.read_section.specs.Operator.{IsLeastFreePage}
use Rattle.retire.specs.body.Allocation.{IsAllocation, AllocationValue, AllocatesFree}
use Rattle.retire.proofs.AllocationLemmas.{length-free, one_free_more, one_allocated_more, some_page_left}
use Rattle.retire.proofs.allocation.Allocation.allocate.Goals as goal

pub unreachable-requires : goal.unreachable-requires
unreachable-requires g c = let view = c.args.operator.now.view in let h = c.loop-index.invariant in let from = ap (λ (v : AllocationValue). v.from) c.self.view_is in
    let room = c.requires.room in let low = c.loop-index-test.true in
    some_page_left view c.loop-index.self h.0 c.free_page.ensures.never_short c.requires.row (omega (arith, length-free view c.args.self.now c.loop-index.self c.loop-index._index h.1))
    (λ page up free. c.in_default.ensures.least page (omega (arith, from)) free)

pub overflow_cast-page : goal.overflow_cast-page
overflow_cast-page g c = let low = c.in-Some.ensures.least.free.0 in omega (arith, pages_is)

pub overflow_add-page : goal.overflow_add-page
overflow_add-page g c = let low = c.in-Some.ensures.least.free.0 in omega (arith, pages_is)

pub loop-index-preserved : goal.loop-index-preserved
loop-index-preserved g c = let view = c.args.operator.now.view in let h = c.loop-index.invariant in let from = ap (λ (v : AllocationValue). v.from) c.self.view_is in
    let least = subst (λ (k : ℕ). IsLeastFreePage view k c.in-Some.page) from c.in-Some.ensures.least in (
      subst (IsAllocation view) (sym c.push.ensures) (one_allocated_more view c.loop-index.self h.0 c.in-Some.page least),
      subst (λ (v : AllocationValue). AllocatesFree view c.args.self.now v (c.loop-index._index + 1)) (sym c.push.ensures) (one_free_more view c.args.self.now c.loop-index.self c.loop-index._index c.in-Some.page (c.in-Some.page + 1) h.1 least.free),
    )

pub returns-clause-free : goal.returns-clause-free
returns-clause-free g c = search rules

pub returns-clause-allocation : goal.returns-clause-allocation
returns-clause-allocation g c = search rules
