use Rattle.std.proofs.Common.{[], refl, subst}
use Rattle.control_rules.proofs.LearnLemmas.{learns_weaker}
use Rattle.control_counters.specs.body.Framed.{AddsFirstGroups}
use Rattle.control_counters.proofs.FrameLemmas.{groups_end}
use Rattle.control_rules.proofs.StopLemmas.{err_is}
use Rattle.control_counters.proofs.frame.read_frame.Goals as goal

pub returns-then-not-branch : goal.returns-then-not-branch
returns-then-not-branch g c =
    learns_weaker c.args.client.now c.push_groups.new.client _ _ (λ history are all shown. tt) c.in_ok-push_groups.ensures

pub returns : goal.returns
returns g c =
    learns_weaker c.args.client.now c.push_groups.new.client _ _
    (λ history are all shown.
    let config = history c.args.shown.version in
    let none = subst (λ start. AddsFirstGroups config c.args.shown.groups start c.push_groups.new.groups.items c.new-members.result.items c.push_groups.new.members.items)
    c.new-groups.ensures.items (all c.if-not-branch.false) in
    let both = groups_end config c.args.shown.groups c.push_groups.new.groups.items c.push_groups.new.members.items shown.groups
    (subst (λ start. AddsFirstGroups config c.args.shown.groups [] c.push_groups.new.groups.items start c.push_groups.new.members.items) c.new-members.ensures.items none) in
    (refl, record { groups = both.0; members = both.1; charge = shown.charge }))
    c.in_ok-push_groups.ensures

pub returns-in_err-push_groups : goal.returns-in_err-push_groups
returns-in_err-push_groups g c =
    rw (err_is c.from_residual.result c.in_err-push_groups.field-0.0 c.from_residual.ensures.1)
    (c.in_err-push_groups.ensures)
