use Rattle.std.proofs.Common.{◌≡◌, ◌∙◌, ◌-◌, ap, arith, length, sym}
use Rattle.std.specs.Prelude.{sum}
use Rattle.selector_buckets.specs.Shares.{given_more}
use Rattle.selector_buckets.proofs.ShareLemmas.{quotas_fit, quotas_made}
use Rattle.selector_buckets.proofs.TurnLemmas.{written_back}
use Rattle.selector_buckets.proofs.share.quotas.Goals as goal

pub sum_of-given-requires : goal.sum_of-given-requires
sum_of-given-requires c =
    let fit = quotas_fit c.args.weights.now c.args.count c.sum_of-total.result c.in_ok-quotas.quotas.items c.in_ok-remainders.remainders.items c.sum_of-total.ensures c.in_ok-quotas.ensures c.in_ok-remainders.ensures c.requires.some in
    omega (arith, ap sum c.deref.ensures.value, c.requires.count)

pub overflow_sub-count : goal.overflow_sub-count
overflow_sub-count c =
    let fit = quotas_fit c.args.weights.now c.args.count c.sum_of-total.result c.in_ok-quotas.quotas.items c.in_ok-remainders.remainders.items c.sum_of-total.ensures c.in_ok-quotas.ensures c.in_ok-remainders.ensures c.requires.some in
    omega (arith, ap sum c.deref.ensures.value, c.sum_of-given.ensures)

pub give-requires-clause-bounded : goal.give-requires-clause-bounded
give-requires-clause-bounded c =
    let fit = quotas_fit c.args.weights.now c.args.count c.sum_of-total.result c.in_ok-quotas.quotas.items c.in_ok-remainders.remainders.items c.sum_of-total.ensures c.in_ok-quotas.ensures c.in_ok-remainders.ensures c.requires.some in
    omega (arith, ap sum c.deref_mut.ensures.value, c.requires.count)

pub returns : goal.returns
returns c =
    let quotas = c.in_ok-quotas.quotas in
    let made : given_more (c.args.count - c.sum_of-given.result) (record { quotas = quotas.items; remainders = c.in_ok-remainders.remainders.items }) ≡ record { quotas = c.give.new.quotas; remainders = c.give.new.remainders } = cc (c.give.ensures, c.deref_mut.ensures.value, c.deref_mut-2.ensures.value) in
    written_back c.give.new.quotas quotas.items quotas.len (sym quotas.ok.0) (c.give.auto.quotas ∙ (ap length c.deref_mut.ensures.value ∙ sym quotas.ok.0))
    ∙ quotas_made c.args.weights.now c.args.count c.sum_of-total.result quotas.items c.in_ok-remainders.remainders.items c.sum_of-total.ensures c.in_ok-quotas.ensures c.in_ok-remainders.ensures
    c.sum_of-given.result c.give.new.quotas c.give.new.remainders (c.sum_of-given.ensures ∙ ap sum c.deref.ensures.value) made
