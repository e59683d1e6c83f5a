use Rattle.std.proofs.Common.{◌≡◌, ◌∙◌, ◌++◌, List, ap, length, string_bytes, ℕ}
use Rattle.std.proofs.lemmas.Result.{on_ok_weaker}
use Rattle.counter_text.specs.Metrics.{failures_block, front_block, group_block, member_block, rules_block, totals_block}
use Rattle.counter_text.specs.declared.counters.GroupCount.{GroupCount}
use Rattle.counter_text.specs.declared.counters.MemberCount.{MemberCount}
use Rattle.counter_text.specs.declared.metrics.GroupMetric.TheVariants as of_group
use Rattle.counter_text.specs.declared.metrics.MemberMetric.TheVariants as of_member
use Rattle.counter_text.proofs.PieceLemmas.{more}
use Rattle.counter_text.proofs.metrics.push_metrics.Goals as goal

pub returns : goal.returns
returns c =
    let counters = c.args.counters.now in
    let old = string_bytes c.args.text.now in
    let groups : c.as_slice-groups.result.now ≡ counters.groups.items = c.as_slice-groups.ensures.value in
    let members : c.as_slice-members.result.now ≡ counters.members.items = c.as_slice-members.ensures.value in
    let p1 = totals_block counters.totals in
    let p2 = failures_block counters.totals in
    let rules : ℕ → List GroupCount → List MemberCount → List ℕ = λ charge gs ms. rules_block counters.version charge (length gs) (length ms) in
    let p3 = rules counters.charge counters.groups.items counters.members.items in
    let p4 = group_block of_group.Datagrams counters.groups.items in
    let p5 = group_block of_group.SendFailures counters.groups.items in
    let p6 = member_block of_member.Datagrams counters.members.items in
    let p7 = member_block of_member.SendFailures counters.members.items in
    let p8 = member_block of_member.Bytes counters.members.items in
    let two = string_bytes c.failures_block.new.text in
    let ruled : string_bytes c.rules_block.new.text ≡ two ++ p3 =
    c.in_ok-rules_block.ensures ∙ ap (λ x. two ++ rules x c.as_slice-groups.result.now c.as_slice-members.result.now) c.from-charge.ensures
    ∙ ap (λ x. two ++ rules counters.charge x c.as_slice-members.result.now) groups ∙ ap (λ x. two ++ rules counters.charge counters.groups.items x) members
    in
    let t2 = more old p1 p2 c.in_ok-failures_block.ensures c.in_ok-totals_block.ensures in
    let t3 = more old (p1 ++ p2) p3 ruled t2 in
    let t4 = more old (p1 ++ p2 ++ p3) p4 (c.in_ok-group_block.ensures ∙ ap (λ x. string_bytes c.rules_block.new.text ++ group_block of_group.Datagrams x) groups) t3 in
    let t5 = more old (p1 ++ p2 ++ p3 ++ p4) p5 (c.in_ok-group_block-2.ensures ∙ ap (λ x. string_bytes c.group_block.new.text ++ group_block of_group.SendFailures x) groups) t4 in
    let t6 = more old (p1 ++ p2 ++ p3 ++ p4 ++ p5) p6 (c.in_ok-member_block.ensures ∙ ap (λ x. string_bytes c.group_block-2.new.text ++ member_block of_member.Datagrams x) members) t5 in
    let t7 = more old (p1 ++ p2 ++ p3 ++ p4 ++ p5 ++ p6) p7 (c.in_ok-member_block-2.ensures ∙ ap (λ x. string_bytes c.member_block.new.text ++ member_block of_member.SendFailures x) members) t6 in
    let t8 = more old (p1 ++ p2 ++ p3 ++ p4 ++ p5 ++ p6 ++ p7) p8 (c.in_ok-member_block-3.ensures ∙ ap (λ x. string_bytes c.member_block-2.new.text ++ member_block of_member.Bytes x) members) t7 in
    on_ok_weaker c.front_block.result
    (λ (is : string_bytes c.front_block.new.text ≡ string_bytes c.member_block-3.new.text ++ front_block c.args.front). more old (p1 ++ p2 ++ p3 ++ p4 ++ p5 ++ p6 ++ p7 ++ p8) (front_block c.args.front) is t8)
    c.front_block.ensures
