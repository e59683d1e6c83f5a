use Rattle.std.proofs.Common.{◌≡◌, ◌∙◌, IfSome, List, None, Option, ap, false, subst, sym, true, ℕ}
use Rattle.config_image.specs.Image.{Group}
use Rattle.member_counts.specs.Key.{has}
use Rattle.member_counts.specs.Table.{Table, group_counts, member_counts}
use Rattle.serve_control.specs.Members.{IsCountsReply, no_group, no_member, of_group, of_member}
use Rattle.serve_control.proofs.members.counts_reply.Goals as goal

pub returns-then-not-has-clause-reply : goal.returns-then-not-has-clause-reply
returns-then-not-has-clause-reply g c =
    subst (λ (line : List ℕ). IsCountsReply c.args.operator.now (g.M.MemberTotals.table c.settle.new.self) c.args.asked line) (sym c.refused.ensures.text)
    (no_group c.config-config.result.now c.config-config.ensures.current_configuration
    (ap (λ (groups : List Group). has groups (record { group = c.args.asked.group; member = None })) (sym c.groups.ensures.groups) ∙ sym c.has.ensures ∙ c.if-not-has.true))

pub returns-in_default-clause-reply : goal.returns-in_default-clause-reply
returns-in_default-clause-reply g c =
    let there : has c.config-config.result.now (record { group = c.args.asked.group; member = None }) ≡ true =
    ap (λ (groups : List Group). has groups (record { group = c.args.asked.group; member = None })) (sym c.groups.ensures.groups) ∙ sym c.has.ensures ∙ c.if-not-has.false in
    subst (λ (line : List ℕ). IsCountsReply c.args.operator.now (g.M.MemberTotals.table c.group.new.self) c.args.asked line) (sym c.group_reply.ensures)
    (of_group c.config-config.result.now c.group.result c.config-config.ensures.current_configuration c.in_default.is
    (ap (λ (member : Option ℕ). has c.config-config.result.now (record { group = c.args.asked.group; member = member })) c.in_default.is ∙ there)
    (subst (λ (table : Option Table). IfSome table (λ t. c.group.result ≡ group_counts c.args.asked.group t)) (sym c.group.ensures.kept) c.group.ensures.counts))

pub returns-then-not-has-2-clause-reply : goal.returns-then-not-has-2-clause-reply
returns-then-not-has-2-clause-reply g c =
    subst (λ (line : List ℕ). IsCountsReply c.args.operator.now (g.M.MemberTotals.table c.settle.new.self) c.args.asked line) (sym c.refused-then-not-has-2.ensures.text)
    (no_member c.config-config.result.now c.config-config.ensures.current_configuration
    (ap (λ (groups : List Group). has groups (record { group = c.args.asked.group; member = None })) (sym c.groups.ensures.groups) ∙ sym c.has.ensures ∙ c.if-not-has.false)
    (ap (λ (groups : List Group). has groups c.args.asked) (sym c.groups-2.ensures.groups) ∙ sym c.has-2.ensures ∙ c.if-not-has-2.true))

pub returns-clause-reply : goal.returns-clause-reply
returns-clause-reply g c =
    subst (λ (line : List ℕ). IsCountsReply c.args.operator.now (g.M.MemberTotals.table c.member.new.self) c.args.asked line) (sym c.member_reply.ensures)
    (of_member c.config-config.result.now c.in-Some.id c.member.result c.config-config.ensures.current_configuration c.in-Some.is
    (ap (λ (groups : List Group). has groups c.args.asked) (sym c.groups-2.ensures.groups) ∙ sym c.has-2.ensures ∙ c.if-not-has-2.false)
    (subst (λ (table : Option Table). IfSome table (λ t. c.member.result ≡ member_counts c.args.asked.group c.in-Some.id t)) (sym c.member.ensures.kept) c.member.ensures.counts))
