use Rattle.std.proofs.Common.{◌≡◌, ◌-◌, ◌∙◌, ap, map, subst, sym}
use Rattle.selector_buckets.specs.Buckets.{BucketsValue, IsTable}
use Rattle.selector_buckets.specs.Drained.{AllAreTaken, GoToTheFewest, OthersStay, SharesGrow, drained, index_after}
use Rattle.selector_buckets.specs.Shares.{HasMembersOnly}
use Rattle.selector_buckets.proofs.DrainLemmas.{after_table, all_taken, drained_is, members_only, others_stay, shares_grow, to_the_fewest}
use Rattle.selector_buckets.proofs.drain.drained.Goals as goal

pub new-requires : goal.new-requires
new-requires c =
    let made : c.in_ok-members.members.items ≡ drained c.args.count c.args.gone c.args.buckets.now.members =
    drained_is c.args.count c.args.gone c.args.buckets.now.members c.members.result.now c.in_ok-handed.handed.items c.in_ok-members.members.items c.members.ensures.members c.in_ok-handed.ensures
    (c.in_ok-members.ensures ∙ ap (map (index_after c.args.count c.args.gone)) c.deref.ensures.value) in
    let table = after_table c.args.count c.args.gone c.requires.0 c.requires.1 c.args.buckets.now.members c.requires.3 c.args.buckets.now.depth c.requires.2 c.depth.ensures.table in
    subst (λ depth. IsTable (record { depth = depth; members = c.in_ok-members.members.items })) (sym c.depth.ensures.depth)
    (subst (λ members. IsTable (record { depth = c.args.buckets.now.depth; members = members })) (sym made) table)

pub returns-clause-others_stay : goal.returns-clause-others_stay
returns-clause-others_stay c =
    let made : c.in_ok-members.members.items ≡ drained c.args.count c.args.gone c.args.buckets.now.members =
    drained_is c.args.count c.args.gone c.args.buckets.now.members c.members.result.now c.in_ok-handed.handed.items c.in_ok-members.members.items c.members.ensures.members c.in_ok-handed.ensures
    (c.in_ok-members.ensures ∙ ap (map (index_after c.args.count c.args.gone)) c.deref.ensures.value) in
    let after : drained c.args.count c.args.gone c.args.buckets.now.members ≡ c.new.result.members = sym (ap (λ (v : BucketsValue). v.members) c.new.ensures ∙ made) in
    subst (OthersStay c.args.count c.args.gone c.args.buckets.now.members) after (others_stay c.args.count c.args.gone c.requires.0 c.requires.1 c.args.buckets.now.members)

pub returns-clause-all_taken : goal.returns-clause-all_taken
returns-clause-all_taken c =
    let made : c.in_ok-members.members.items ≡ drained c.args.count c.args.gone c.args.buckets.now.members =
    drained_is c.args.count c.args.gone c.args.buckets.now.members c.members.result.now c.in_ok-handed.handed.items c.in_ok-members.members.items c.members.ensures.members c.in_ok-handed.ensures
    (c.in_ok-members.ensures ∙ ap (map (index_after c.args.count c.args.gone)) c.deref.ensures.value) in
    let after : drained c.args.count c.args.gone c.args.buckets.now.members ≡ c.new.result.members = sym (ap (λ (v : BucketsValue). v.members) c.new.ensures ∙ made) in
    subst (AllAreTaken c.args.count c.args.gone c.args.buckets.now.members) after (all_taken c.args.count c.args.gone c.requires.0 c.requires.1 c.args.buckets.now.members)

pub returns-clause-members_only : goal.returns-clause-members_only
returns-clause-members_only c =
    let made : c.in_ok-members.members.items ≡ drained c.args.count c.args.gone c.args.buckets.now.members =
    drained_is c.args.count c.args.gone c.args.buckets.now.members c.members.result.now c.in_ok-handed.handed.items c.in_ok-members.members.items c.members.ensures.members c.in_ok-handed.ensures
    (c.in_ok-members.ensures ∙ ap (map (index_after c.args.count c.args.gone)) c.deref.ensures.value) in
    let after : drained c.args.count c.args.gone c.args.buckets.now.members ≡ c.new.result.members = sym (ap (λ (v : BucketsValue). v.members) c.new.ensures ∙ made) in
    subst (HasMembersOnly (c.args.count - 1)) after (members_only c.args.count c.args.gone c.requires.0 c.requires.1 c.args.buckets.now.members c.requires.3)

pub returns-clause-shares_grow : goal.returns-clause-shares_grow
returns-clause-shares_grow c =
    let made : c.in_ok-members.members.items ≡ drained c.args.count c.args.gone c.args.buckets.now.members =
    drained_is c.args.count c.args.gone c.args.buckets.now.members c.members.result.now c.in_ok-handed.handed.items c.in_ok-members.members.items c.members.ensures.members c.in_ok-handed.ensures
    (c.in_ok-members.ensures ∙ ap (map (index_after c.args.count c.args.gone)) c.deref.ensures.value) in
    let after : drained c.args.count c.args.gone c.args.buckets.now.members ≡ c.new.result.members = sym (ap (λ (v : BucketsValue). v.members) c.new.ensures ∙ made) in
    subst (SharesGrow c.args.count c.args.gone c.args.buckets.now.members) after (shares_grow c.args.count c.args.gone c.requires.0 c.requires.1 c.args.buckets.now.members c.requires.3)

pub returns-clause-to_the_fewest : goal.returns-clause-to_the_fewest
returns-clause-to_the_fewest c =
    let made : c.in_ok-members.members.items ≡ drained c.args.count c.args.gone c.args.buckets.now.members =
    drained_is c.args.count c.args.gone c.args.buckets.now.members c.members.result.now c.in_ok-handed.handed.items c.in_ok-members.members.items c.members.ensures.members c.in_ok-handed.ensures
    (c.in_ok-members.ensures ∙ ap (map (index_after c.args.count c.args.gone)) c.deref.ensures.value) in
    let after : drained c.args.count c.args.gone c.args.buckets.now.members ≡ c.new.result.members = sym (ap (λ (v : BucketsValue). v.members) c.new.ensures ∙ made) in
    subst (GoToTheFewest c.args.count c.args.gone c.args.buckets.now.members) after (to_the_fewest c.args.count c.args.gone c.requires.0 c.requires.1 c.args.buckets.now.members c.requires.3)
