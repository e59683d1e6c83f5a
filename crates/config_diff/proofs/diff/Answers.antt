use Rattle.member_group.specs.Group.{group_of}
use Rattle.config_diff.specs.Words.{words_config}
use Rattle.config_diff.specs.body.Appended.{words_group}
use Rattle.config_diff.specs.body.Changes.{group_changes, removal, same_words}
use Rattle.config_diff.proofs.BodyLemmas.{more_of_next}
use Rattle.config_diff.proofs.WholeLemmas.{at_the_end, items_lead, leave_equal_beginnings, leave_equal_groups, none_of_equal, rules_of_nothing}
use Rattle.config_diff.proofs.diff.Goals as goal

pub loop-group-preserved : goal.loop-group-preserved
loop-group-preserved g c =
    more_of_next (λ group. removal (words_config c.groups-wanted.result.now) (words_group group)) _ _ _ c.groups-there.result.now c.loop-group.group-index c.group-item.result c.loop-group-test.true c.group-item.is
    c.loop-group.invariant c.in_ok-append_removal.ensures.appended

pub loop-group-2-preserved : goal.loop-group-2-preserved
loop-group-2-preserved g c =
    more_of_next (λ group. group_changes same_words (group_of group.key (words_config c.groups-there.result.now)) (words_group group)) _ _ _ c.groups-wanted.result.now c.loop-group-2.group-index c.group-item-in-loop-group-2.result c.loop-group-2-test.true
    c.group-item-in-loop-group-2.is c.loop-group-2.invariant c.in_ok-append_group_changes.ensures.appended

pub returns : goal.returns
returns g c =
    let there = c.groups-there.ensures in
    let wanted = c.groups-wanted.ensures in
    let are = at_the_end c.args.from.now c.args.to.now c.groups-there.result.now c.groups-wanted.result.now c.loop-group.group-index c.loop-group-2.group-index _ _ _ c.new-changes.ensures.items there.groups wanted.groups
    c.loop-group-test.false c.loop-group-2-test.false c.loop-group.invariant c.loop-group-2.invariant in
    record {
      leads = items_lead c.args.from.now c.args.to.now there.config wanted.config _ are;
      nothing_of_equal = none_of_equal c.args.from.now c.args.to.now there.config wanted.config _ are;
      equal_groups = leave_equal_groups c.args.from.now c.args.to.now there.config wanted.config _ are;
      equal_beginnings = leave_equal_beginnings c.args.from.now c.args.to.now there.config wanted.config _ are;
      of_nothing = rules_of_nothing c.args.from.now c.args.to.now there.config wanted.config _ are;
    }
