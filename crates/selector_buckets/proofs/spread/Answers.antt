use Rattle.std.proofs.Common.{◌≡◌, ◌∙◌, ◌^◌, ap, arith, length, subst, sym}
use Rattle.std.specs.Prelude.{sum}
use Rattle.selector_buckets.specs.Buckets.{BucketsValue, IsTable}
use Rattle.selector_buckets.specs.Shares.{HasMembersOnly, IsShared, ids_of, weights_of}
use Rattle.selector_buckets.specs.Turns.{table_of}
use Rattle.selector_buckets.proofs.SpreadLemmas.{each_made_long, is_made, made_members, made_shared, made_table}
use Rattle.selector_buckets.proofs.spread.Goals as goal

pub quotas-requires-clause-bounded : goal.quotas-requires-clause-bounded
quotas-requires-clause-bounded c = omega (arith, ap sum c.deref.ensures.value, c.in_ok-weights.ensures.bounded, c.requires.can_share.0)

pub filled-requires-clause-each : goal.filled-requires-clause-each
filled-requires-clause-each c =
    each_made_long c.args.shares.now c.count_of-count.result c.deref-2.result.now c.deref.result.now c.deref-3.result.now c.requires.can_share.1
    (c.deref-2.ensures.value ∙ c.in_ok-ids.ensures) (c.deref.ensures.value ∙ c.in_ok-weights.ensures.weights) (c.deref-3.ensures.value ∙ c.in_ok-quotas.ensures)

pub new-requires : goal.new-requires
new-requires c =
    let is : c.in_ok-members.members.items ≡ table_of (ids_of c.args.shares.now) (weights_of c.args.shares.now) (2 ^ c.args.depth) =
    is_made c.args.shares.now c.args.depth c.count_of-count.result c.deref-2.result.now c.deref.result.now c.deref-3.result.now c.in_ok-members.members.items c.count_of-count.ensures.count
    (c.deref-2.ensures.value ∙ c.in_ok-ids.ensures) (c.deref.ensures.value ∙ c.in_ok-weights.ensures.weights) (c.deref-3.ensures.value ∙ c.in_ok-quotas.ensures) c.in_ok-members.ensures in
    subst (λ members. IsTable (record { depth = c.args.depth; members = members })) (sym is) (made_table c.args.shares.now c.args.depth c.requires.can_share.0 c.requires.can_share.1 c.requires.depth)

pub returns-clause-shared : goal.returns-clause-shared
returns-clause-shared c =
    let is : c.in_ok-members.members.items ≡ table_of (ids_of c.args.shares.now) (weights_of c.args.shares.now) (2 ^ c.args.depth) =
    is_made c.args.shares.now c.args.depth c.count_of-count.result c.deref-2.result.now c.deref.result.now c.deref-3.result.now c.in_ok-members.members.items c.count_of-count.ensures.count
    (c.deref-2.ensures.value ∙ c.in_ok-ids.ensures) (c.deref.ensures.value ∙ c.in_ok-weights.ensures.weights) (c.deref-3.ensures.value ∙ c.in_ok-quotas.ensures) c.in_ok-members.ensures in
    subst (IsShared (weights_of c.args.shares.now)) (sym (ap (λ (v : BucketsValue). v.members) c.new.ensures ∙ is)) (made_shared c.args.shares.now c.args.depth c.requires.can_share.0 c.requires.can_share.1)

pub returns-clause-members_only : goal.returns-clause-members_only
returns-clause-members_only c =
    let is : c.in_ok-members.members.items ≡ table_of (ids_of c.args.shares.now) (weights_of c.args.shares.now) (2 ^ c.args.depth) =
    is_made c.args.shares.now c.args.depth c.count_of-count.result c.deref-2.result.now c.deref.result.now c.deref-3.result.now c.in_ok-members.members.items c.count_of-count.ensures.count
    (c.deref-2.ensures.value ∙ c.in_ok-ids.ensures) (c.deref.ensures.value ∙ c.in_ok-weights.ensures.weights) (c.deref-3.ensures.value ∙ c.in_ok-quotas.ensures) c.in_ok-members.ensures in
    subst (HasMembersOnly (length c.args.shares.now)) (sym (ap (λ (v : BucketsValue). v.members) c.new.ensures ∙ is)) (made_members c.args.shares.now c.args.depth c.requires.can_share.0 c.requires.can_share.1)

pub returns-clause-table : goal.returns-clause-table
returns-clause-table c =
    ap (λ (v : BucketsValue). v.members) c.new.ensures
    ∙ is_made c.args.shares.now c.args.depth c.count_of-count.result c.deref-2.result.now c.deref.result.now c.deref-3.result.now c.in_ok-members.members.items c.count_of-count.ensures.count
    (c.deref-2.ensures.value ∙ c.in_ok-ids.ensures) (c.deref.ensures.value ∙ c.in_ok-weights.ensures.weights) (c.deref-3.ensures.value ∙ c.in_ok-quotas.ensures) c.in_ok-members.ensures
