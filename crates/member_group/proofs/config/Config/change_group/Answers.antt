use Rattle.std.proofs.Common.{List, subst, sym}
use Rattle.bpf_verify.specs.Program.{ProgramValue}
use Rattle.member_group.specs.Group.{GroupOf, has_key}
use Rattle.member_group.specs.Place.{IsOnlyAt}
use Rattle.member_group.proofs.InPlaceLemmas.{IsConfig-set_group, group_answer, group_set_at}
use Rattle.member_group.proofs.config.Config.change_group.Goals as goal

pub invariant_of-self : goal.invariant_of-self
invariant_of-self g c =
    let only = subst (λ (config : List (GroupOf ProgramValue)). IsOnlyAt (has_key c.args.key) config c.in_ok-at.at) (sym c.self.view_is) c.in_ok-at.ensures.found in
    IsConfig-set_group c.args.command.now c.self.inside.groups.items c.in_ok-at.at c.index_mut-group.result.now c.change.new.self c.change.result c.self.invariant only.inside
    c.index_mut-group.ensures.value c.change.ensures.changed c.change.ensures.kept c.change.ensures.group

pub returns-clause-answer : goal.returns-clause-answer
returns-clause-answer g c =
    group_answer c.args.key c.args.command.now c.args.self.now c.in_ok-at.at c.index_mut-group.result.now c.requires c.in_ok-at.ensures.found (rw (← c.self.view_is) c.index_mut-group.ensures.value)
    _ c.change.result c.change.ensures.answer

pub returns-clause-changed : goal.returns-clause-changed
returns-clause-changed g c =
    group_set_at c.args.key c.args.command.now c.args.self.now c.in_ok-at.at c.index_mut-group.result.now c.requires c.in_ok-at.ensures.found (rw (← c.self.view_is) c.index_mut-group.ensures.value)
    c.self.inside.groups.items c.change.new.self c.change.result c.self.view_is c.change.ensures.changed
