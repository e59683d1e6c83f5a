use Rattle.std.proofs.Common.{◌∙◌, List, ap, arith, subst, sym}
use Rattle.std.specs.List.{insert}
use Rattle.bpf_verify.specs.Program.{ProgramValue}
use Rattle.member_group.specs.Group.{GroupOf, IsConfig}
use Rattle.member_group.proofs.ConfigLemmas.{added_is_config, with_group-gap}
use Rattle.member_group.proofs.config.Config.insert_group.Goals as goal

pub invariant_of-self-2 : goal.invariant_of-self-2
invariant_of-self-2 g c =
    let config = c.args.self.now in
    rw (c.in_ok-insert.ensures.items, c.in_ok-group.ensures.empty, c.self.view_is, ← with_group-gap c.args.key config c.args.at c.requires.gap)
    (added_is_config c.args.key config c.args.at (record { address = omega arith; port = omega arith }) (subst IsConfig c.self.view_is c.self.invariant) c.requires.room c.requires.gap)

pub returns-clause-changed : goal.returns-clause-changed
returns-clause-changed g c =
    c.in_ok-insert.ensures.items
    ∙ ap (λ (config : List (GroupOf ProgramValue)). insert config c.args.at c.in_ok-group.group) c.self.view_is
    ∙ ap (λ (group : GroupOf ProgramValue). insert c.args.self.now c.args.at group) c.in_ok-group.ensures.empty
    ∙ sym (with_group-gap c.args.key c.args.self.now c.args.at c.requires.gap)
