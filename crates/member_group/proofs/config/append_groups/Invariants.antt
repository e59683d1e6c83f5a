use Rattle.std.proofs.Common.{◌++◌, ◌≡◌, take}
use Rattle.member_group.proofs.config.append_groups.Given as goal

abbrev pub invariant-loop-group : goal.invariant-loop-group
invariant-loop-group g l = l.to.items ≡ l.initial.to.items ++ take l.group-index l.from
