use Rattle.std.proofs.Common.{◌∙◌, ap, sym}
use Rattle.std.specs.List.{find}
use Rattle.std.specs.Prelude.{slice_get}
use Rattle.member_group.specs.Group.{group_of, has_id}
use Rattle.control_rules.proofs.DrainingLemmas.{no_group, no_member, planned_result}
use Rattle.control_rules.proofs.planning.planned.Goals as goal

pub returns-in_default : goal.returns-in_default
returns-in_default c =
    no_group c.args.config.now c.args.key c.args.id (ap (group_of c.args.key) (sym c.groups.ensures.groups) ∙ sym c.in_default.ensures.found)

pub returns-in_default-index_of : goal.returns-in_default-index_of
returns-in_default-index_of c =
    no_member c.args.config.now c.args.key c.args.id c.in-Some.group.now (ap (group_of c.args.key) (sym c.groups.ensures.groups) ∙ sym c.in-Some.ensures.found)
    (ap (find (has_id c.args.id)) (sym c.members.ensures.members) ∙ c.in_default-index_of.ensures.none)

pub returns : goal.returns
returns c =
    let (member, at, is) = c.in-Some-index_of.ensures.found in
    planned_result c.args.config.now c.args.key c.args.id c.in-Some.group.now (ap (group_of c.args.key) (sym c.groups.ensures.groups) ∙ sym c.in-Some.ensures.found)
    c.in-Some-index_of.index member (ap (λ members. slice_get members c.in-Some-index_of.index) (sym c.members.ensures.members) ∙ at) is c.plan_in_group.result c.plan_in_group.ensures
