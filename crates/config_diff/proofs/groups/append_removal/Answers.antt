use Rattle.std.proofs.Common.{◌∙◌, sym}
use Rattle.std.proofs.lemmas.Result.{on_ok_weaker}
use Rattle.config_diff.proofs.WholeLemmas.{removal_appended, stays_appended}
use Rattle.config_diff.proofs.groups.append_removal.Goals as goal

pub returns : goal.returns
returns g c = record {
  appended = on_ok_weaker c.append.result
      (removal_appended c.key-key.result c.args.group.now c.key-key.ensures.key c.group_at.result c.args.to.now c.group_at.ensures.found (sym c.is_some.ensures ∙ c.if-is_some.false) _ _)
      c.append.ensures.appended;
}

pub returns-then-is_some : goal.returns-then-is_some
returns-then-is_some g c = record {
  appended = stays_appended c.key-key.result c.args.group.now c.key-key.ensures.key c.group_at.result c.args.to.now c.group_at.ensures.found (sym c.is_some.ensures ∙ c.if-is_some.true) _;
}
