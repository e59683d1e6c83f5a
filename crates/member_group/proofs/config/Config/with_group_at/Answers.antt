use Rattle.std.proofs.Common.{◌≡◌, ◌∙◌, List, set, subst, sym}
use Rattle.bpf_verify.specs.Program.{ProgramValue}
use Rattle.member_group.specs.Group.{GroupOf, IsConfig}
use Rattle.member_group.proofs.ConfigLemmas.{replaced_is_config}
use Rattle.member_group.proofs.config.Config.with_group_at.Goals as goal

pub invariant_of-next : goal.invariant_of-next
invariant_of-next g c =
    let same : c.next.inside.groups.items ≡ c.args.self.now = c.next.view_is ∙ c.in_ok-next.ensures.copied in
    subst (λ (config : List (GroupOf ProgramValue)). IsConfig (set config c.args.at c.args.group)) (sym same)
    (replaced_is_config c.args.self.now c.args.at c.args.group (subst IsConfig same c.next.invariant) c.requires.inside c.requires.same_key c.requires.group)
