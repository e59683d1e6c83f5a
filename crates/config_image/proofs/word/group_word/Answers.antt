use Rattle.std.proofs.Common.{◌≡◌, ◌≤◌, ◌∙◌, arith, length}
use Rattle.member_group.specs.Group.{IsGroup}
use Rattle.config_image.proofs.WordLemmas.{group_records_more, item_of_all}
use Rattle.config_image.proofs.word.group_word.Goals as goal

pub loop-group-preserved : goal.loop-group-preserved
loop-group-preserved g c =
    let members : c.members-in-loop-group.result.now ≡ c.group-item.result.members = c.members-in-loop-group.ensures.members in
    let so_far = c.loop-group.invariant.1 in
    let past = c.if-left-lt-GROUP_WORDS.false in
    let few : length c.members-in-loop-group.result.now ≤ 64 = rw members (item_of_all IsGroup c.args.groups.now c.loop-group.group-index c.group-item.result c.loop-group-test.true c.group-item.is c.requires.groups).limited in
    let short = c.programs_len-place.ensures.limited in
    let members_within = c.loop-group.invariant.2 in
    let programs_within = c.loop-group.invariant.3 in (
      rw members (group_records_more c.args.groups.now c.loop-group.group-index c.group-item.result c.loop-group-test.true c.group-item.is c.loop-group.members c.loop-group.place c.loop-group.left _ past c.programs_len-place.ensures.words ∙ c.loop-group.invariant.0),
      omega arith,
      omega arith,
      omega arith,
    )
