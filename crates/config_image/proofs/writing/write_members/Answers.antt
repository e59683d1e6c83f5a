use Rattle.std.proofs.Common.{◌≡◌, ◌∙◌, ◌+◌, ap, arith, length, length-append}
use Rattle.member_group.specs.Group.{IsGroup}
use Rattle.config_image.specs.Image.{filter_words, group_program_words, words_of}
use Rattle.config_image.proofs.WordLemmas.{all_member_records-split, item_of_all}
use Rattle.config_image.proofs.WritingLemmas.{writing_piece, writing_room}
use Rattle.config_image.proofs.writing.write_members.Goals as goal

pub write_member_records-place-requires-clause-few : goal.write_member_records-place-requires-clause-few
write_member_records-place-requires-clause-few g c =
    rw c.members.ensures.members (item_of_all IsGroup c.args.groups.now c.loop-group.group-index c.group-item.result c.loop-group-test.true c.group-item.is c.requires.groups).limited

pub write_member_records-place-requires-clause-room : goal.write_member_records-place-requires-clause-room
write_member_records-place-requires-clause-room g c =
    let selector : length c.words.result.now ≡ length (words_of c.group-item.result.selector) = ap length (c.words.ensures.words ∙ ap words_of c.selector.ensures.selector) in
    let split = all_member_records-split c.args.groups.now c.loop-group.group-index c.group-item.result c.loop-group-test.true c.group-item.is c.loop-group.place in
    rw (c.members.ensures.members, selector) (writing_room _ _ _ _ _ _ c.loop-group.invariant.0 _ _ split)

pub loop-group-preserved : goal.loop-group-preserved
loop-group-preserved g c =
    let selector : length c.words.result.now ≡ length (words_of c.group-item.result.selector) = ap length (c.words.ensures.words ∙ ap words_of c.selector.ensures.selector) in
    let split = all_member_records-split c.args.groups.now c.loop-group.group-index c.group-item.result c.loop-group-test.true c.group-item.is c.loop-group.place in
    let put = rw (c.members.ensures.members, selector) at c.write_member_records-place.ensures.taken in
    let less = rw (c.members.ensures.members, selector) at c.write_member_records-place.ensures.room in
    let behind = rw (c.members.ensures.members, selector) at c.write_member_records-place.ensures.behind in
    let place : c.write_member_records-place.result ≡ c.loop-group.place + length (group_program_words c.group-item.result) =
    omega (arith, behind, length-append (words_of c.group-item.result.selector) (filter_words c.group-item.result.members)) in
    (rw place (writing_piece _ _ _ _ _ _ c.loop-group.invariant.0 _ _ split _ _ put less), omega arith)
