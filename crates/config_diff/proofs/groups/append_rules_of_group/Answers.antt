use Rattle.std.proofs.lemmas.Result.{on_ok_weaker}
use Rattle.config_diff.proofs.WholeLemmas.{rules_appended}
use Rattle.config_diff.proofs.groups.append_rules_of_group.Goals as goal

pub returns : goal.returns
returns g c = record {
  appended = on_ok_weaker c.append_joins.result
      (rules_appended c.args.group.now c.key-key.result c.selector.result c.members.result.now c.key-key.ensures.key c.selector.ensures.selector c.members.ensures.members _ _ _ _
      c.in_ok-append.ensures.appended c.in_ok-append_selector_rule.ensures.appended)
      c.append_joins.ensures.appended;
}
