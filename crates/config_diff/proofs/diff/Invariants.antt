use Rattle.std.proofs.Common.{take}
use Rattle.std.specs.Prelude.{flat_map}
use Rattle.member_group.specs.Group.{group_of}
use Rattle.config_diff.specs.Words.{words_config}
use Rattle.config_diff.specs.body.Appended.{HasMore, words_group}
use Rattle.config_diff.specs.body.Changes.{group_changes, removal, same_words}
use Rattle.config_diff.proofs.diff.Given as goal

abbrev pub invariant-loop-group : goal.invariant-loop-group
invariant-loop-group g l =
    HasMore l.initial.changes.items l.changes.items (flat_map (λ group. removal (words_config l.wanted) (words_group group)) (take l.group-index l.there))

abbrev pub invariant-loop-group-2 : goal.invariant-loop-group-2
invariant-loop-group-2 g l =
    HasMore l.initial.changes.items l.changes.items
    (flat_map (λ group. group_changes same_words (group_of group.key (words_config l.there)) (words_group group)) (take l.group-index l.wanted))
