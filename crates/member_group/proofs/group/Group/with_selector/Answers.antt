use Rattle.std.proofs.Common.{◌≡◌, ◌∙◌, List, ap, subst}
use Rattle.std.specs.Prelude.{IfOk, ◌++◌}
use Rattle.bpf_verify.specs.Program.{ProgramValue}
use Rattle.ipv4_fields.specs.declared.endpoint.Endpoint.{Endpoint}
use Rattle.member_group.specs.declared.member.Member.{Member}
use Rattle.member_group.proofs.group.Group.with_selector.Goals as goal

pub of-requires : goal.of-requires
of-requires g c =
    record { few = rw (c.in_ok-append_members.ensures.appended, c.in_ok-members.ensures.empty, c.members-2.ensures.members) c.requires.few }

pub returns : goal.returns
returns g c = record {
  changed = subst (λ (key : Endpoint). IfOk c.of.result (λ group. group ≡ record { key = key; selector = c.args.selector; members = c.args.self.now.members })) c.key.ensures.key
      (subst (λ (members : List (Member ProgramValue)). IfOk c.of.result (λ group. group ≡ record { key = c.key.result; selector = c.args.selector; members = members }))
      (c.in_ok-append_members.ensures.appended ∙ ap (λ front. front ++ c.members-2.result.now) c.in_ok-members.ensures.empty ∙ c.members-2.ensures.members)
      c.of.ensures.parts);
}
