use Rattle.std.proofs.Common.{take}
use Rattle.std.specs.Prelude.{flat_map}
use Rattle.config_diff.specs.Rules.{rules_of_member}
use Rattle.config_diff.specs.body.Appended.{HasMore, words_member}
use Rattle.config_diff.proofs.members.append_joins.Given as goal

abbrev pub invariant-loop-member : goal.invariant-loop-member
invariant-loop-member g l =
    HasMore l.initial.changes.items l.changes.items (flat_map (λ member. rules_of_member l.key (words_member member)) (take l.member-index l.members))
