use Rattle.std.proofs.Common.{◌+◌, ◌<◌, arith, get_or, length}
use Rattle.std.proofs.lemmas.List.Sums.{get_or-le-sum_by, sum_by-set}
use Rattle.selector_buckets.proofs.ShareLemmas.{given_more-next, no_more}
use Rattle.selector_buckets.proofs.share.give.Goals as goal

pub loop-given-init : goal.loop-given-init
loop-given-init c = (no_more (record { quotas = c.args.quotas.now; remainders = c.args.remainders.now }), omega arith)

pub overflow_add-quotas : goal.overflow_add-quotas
overflow_add-quotas c =
    let member = c.greatest-member.result in
    let inside : member < length c.loop-given.quotas = omega (arith, c.greatest-member.ensures.inside, c.loop-given.auto.quotas, c.loop-given.auto.remainders, c.requires.each) in
    omega (arith, get_or-le-sum_by (λ x. x) c.loop-given.quotas member 0 inside, c.loop-given.invariant.1, c.requires.bounded, c.loop-given-test.true)

pub loop-given-preserved : goal.loop-given-preserved
loop-given-preserved c =
    let member = c.greatest-member.result in
    let quotas = c.loop-given.quotas in
    let inside : member < length quotas = omega (arith, c.greatest-member.ensures.inside, c.loop-given.auto.quotas, c.loop-given.auto.remainders, c.requires.each) in
    let grown = sum_by-set (λ x. x) quotas member (get_or quotas member 0 + 1) 0 inside in (
      given_more-next c.loop-given._given (record { quotas = c.args.quotas.now; remainders = c.args.remainders.now }) (record { quotas = quotas; remainders = c.loop-given.remainders }) member
          c.loop-given.invariant.0 c.greatest-member.ensures.greatest,
      omega (arith, c.loop-given.invariant.1),
    )
