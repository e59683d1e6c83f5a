use Rattle.std.proofs.Common.{map, reverse, take}
use Rattle.member_group.specs.declared.command.Command.TheVariants.{Leave}
use Rattle.config_diff.specs.body.Appended.{HasMore}
use Rattle.config_diff.proofs.members.append_leaves.Given as goal

abbrev pub invariant-loop-left : goal.invariant-loop-left
invariant-loop-left g l = HasMore l.initial.changes.items l.changes.items (map (λ member. Leave l.key member.id) (take l.left (reverse l.members)))
