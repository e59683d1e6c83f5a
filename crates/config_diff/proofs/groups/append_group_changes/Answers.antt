use Rattle.std.specs.Prelude.{None, Some}
use Rattle.std.proofs.lemmas.Result.{on_ok_weaker}
use Rattle.config_diff.proofs.WholeLemmas.{changes_appended, with_found}
use Rattle.config_diff.proofs.groups.append_group_changes.Goals as goal

pub returns : goal.returns
returns g c = record {
  appended = on_ok_weaker c.append_members_changes.result
      (λ changed.
      with_found c.key-key.result c.args.group.now c.key-key.ensures.key (Some c.in-Some.one) c.args.from.now c.in-Some.ensures.found _ _
      (changes_appended c.args.group.now c.key-key.result c.selector-2.result c.members-2.result.now c.key-key.ensures.key c.selector-2.ensures.selector c.members-2.ensures.members
      c.in-Some.one.now c.selector.result c.members.result.now c.selector.ensures.selector c.members.ensures.members _ _ _ c.in_ok-append_selector.ensures.appended changed))
      c.append_members_changes.ensures.appended;
}

pub returns-in_default : goal.returns-in_default
returns-in_default g c = record {
  appended = on_ok_weaker c.append_rules_of_group.result
      (with_found c.key-key.result c.args.group.now c.key-key.ensures.key None c.args.from.now c.in_default.ensures.found _ _)
      c.append_rules_of_group.ensures.appended;
}
