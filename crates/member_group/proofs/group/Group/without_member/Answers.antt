use Rattle.std.proofs.Common.{◌≡◌, ◌∙◌, List, ap, arith, subst}
use Rattle.std.specs.Prelude.{IfOk, ◌++◌}
use Rattle.bpf_verify.specs.Program.{ProgramValue}
use Rattle.member_group.specs.Place.{last_in_gap}
use Rattle.member_group.specs.declared.member.Member.{Member}
use Rattle.member_group.proofs.ChargeLemmas.{length-last_in_gap}
use Rattle.member_group.proofs.ListLemmas.{element_at}
use Rattle.member_group.proofs.group.Group.without_member.Goals as goal

pub overflow_sub-members : goal.overflow_sub-members
overflow_sub-members g c = rw c.members.ensures.members (omega arith)

pub append_with_last_in_gap-requires : goal.append_with_last_in_gap-requires
append_with_last_in_gap-requires g c = record { inside = rw c.members-2.ensures.members c.requires.inside }

pub with_members-requires : goal.with_members-requires
with_members-requires g c =
    let are : c.append_with_last_in_gap.new.to.items ≡ last_in_gap c.args.at c.args.self.now.members =
    c.in_ok-append_with_last_in_gap.ensures.appended ∙ ap (λ front. front ++ last_in_gap c.args.at c.members-2.result.now) c.in_ok-members.ensures.empty
    ∙ ap (last_in_gap c.args.at) c.members-2.ensures.members in
    let less = length-last_in_gap c.args.at c.args.self.now.members (element_at c.args.self.now.members c.args.at c.requires.inside).0 c.requires.inside in
    let few = c.requires.few in
    record { few = rw are (omega (arith, less, few)) }

pub returns : goal.returns
returns g c = record {
  changed = subst (λ (members : List (Member ProgramValue)). IfOk c.with_members.result (λ group. group ≡ record { key = c.args.self.now.key; selector = c.args.self.now.selector; members = members }))
      (c.in_ok-append_with_last_in_gap.ensures.appended ∙ ap (λ front. front ++ last_in_gap c.args.at c.members-2.result.now) c.in_ok-members.ensures.empty
      ∙ ap (last_in_gap c.args.at) c.members-2.ensures.members)
      c.with_members.ensures.changed;
}
