use Rattle.std.proofs.Common.{◌≡◌, ◌<◌, ◌∙◌, Some, ap, option_map, slice_get, subst, sym, rules}
use Rattle.packet_verdict.specs.Verdict.{choice, value_of}
use Rattle.packet_verdict.proofs.VerdictLemmas.{at_member, at_no_member, begins_still, member_there}
use Rattle.packet_verdict.proofs.judge.Goals as goal

pub returns-then-group-eq0-clause-verdict : goal.returns-then-group-eq0-clause-verdict
returns-then-group-eq0-clause-verdict g c = λ config begins.
    let is = c.in-Some-find_group.ensures.group_found config begins in
    sym (at_no_member config c.args.packet.now c.in-Some.flow is.0 (sym c.in-Some.ensures.flow) is.1 (sym is.3 ∙ c.if-group-eq0.true))

pub choose-index-requires-clause-group : goal.choose-index-requires-clause-group
choose-index-requires-clause-group g c =
    let is = c.in-Some-find_group.ensures.group_found c.requires.image.0 c.requires.image.1 in
    (c.requires.image.0, is.0, begins_still c.requires.image.0 _ _ c.find_group.ensures.words_kept c.requires.image.1, is.2)

pub judge_by_member-requires-clause-member : goal.judge_by_member-requires-clause-member
judge_by_member-requires-clause-member g c =
    let config = c.requires.image.0 in
    let is = c.in-Some-find_group.ensures.group_found config c.requires.image.1 in
    let there = member_there is.0.members c.choose-index.result (subst (λ count. c.choose-index.result < count) is.3 c.choose-index.ensures.inside) in (
      config,
      there.0,
      begins_still config _ _ (c.choose-index.ensures.words_kept ∙ c.find_group.ensures.words_kept) c.requires.image.1,
      record { of = is.0; group_at = is.2; member_at = there.1 },
    )

pub returns-clause-verdict : goal.returns-clause-verdict
returns-clause-verdict g c = λ config begins.
    let packet = c.args.packet.now in
    let is = c.in-Some-find_group.ensures.group_found config begins in
    let still = begins_still config _ _ c.find_group.ensures.words_kept begins in
    let there = member_there is.0.members c.choose-index.result (subst (λ count. c.choose-index.result < count) is.3 c.choose-index.ensures.inside) in
    let index_is = c.choose-index.ensures.choice config is.0 still is.2
    ∙ ap (λ count. choice (option_map (λ selector. value_of selector packet) is.0.selector) c.in-Some.flow count) is.3 in
    c.judge_by_member.ensures.verdict config there.0 (begins_still config _ _ c.choose-index.ensures.words_kept still)
    (record { of = is.0; group_at = is.2; member_at = there.1 })
    ∙ sym (at_member config packet c.in-Some.flow is.0 (sym c.in-Some.ensures.flow) is.1 there.0
    (subst (λ i. slice_get is.0.members i ≡ Some there.0) index_is there.1))

pub returns-in_default-clause-verdict : goal.returns-in_default-clause-verdict
returns-in_default-clause-verdict g c = search rules

pub returns-in_default-find_group-clause-verdict : goal.returns-in_default-find_group-clause-verdict
returns-in_default-find_group-clause-verdict g c = search rules
