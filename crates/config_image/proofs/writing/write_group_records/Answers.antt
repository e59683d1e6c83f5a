use Rattle.std.proofs.Common.{◌≡◌, ◌++◌, ap, arith, length, rules}
use Rattle.std.proofs.lemmas.List.{at_drop_all}
use Rattle.member_group.specs.Group.{IsGroup}
use Rattle.config_image.specs.Image.{group_records}
use Rattle.config_image.proofs.WordLemmas.{group_record, group_records-split, item_of_all}
use Rattle.config_image.proofs.WritingLemmas.{writing_last, writing_piece, writing_room}
use Rattle.config_image.proofs.writing.write_group_records.Goals as goal

pub write_words-requires : goal.write_words-requires
write_words-requires g c =
    let split = group_records-split c.args.groups.now c.loop-group.group-index c.group-item.result c.loop-group-test.true c.group-item.is c.loop-group.members c.loop-group.place in
    record { room = writing_room _ _ _ _ _ _ c.loop-group.invariant.0 (group_record c.group-item.result c.loop-group.members c.loop-group.place) _ split }

pub loop-group-preserved : goal.loop-group-preserved
loop-group-preserved g c =
    let split = group_records-split c.args.groups.now c.loop-group.group-index c.group-item.result c.loop-group-test.true c.group-item.is c.loop-group.members c.loop-group.place in
    let put : g.S.WordSink.taken c.write_words.new.sink ≡ g.S.WordSink.taken c.loop-group.sink ++ group_record c.group-item.result c.loop-group.members c.loop-group.place = search rules in
    let count : length c.members-count.result.now ≡ length c.group-item.result.members = ap length c.members-count.ensures.members in
    let few = (item_of_all IsGroup c.args.groups.now c.loop-group.group-index c.group-item.result c.loop-group-test.true c.group-item.is c.requires.groups).limited in (
      rw (count, c.programs_len-place.ensures.words) (writing_piece _ _ _ _ _ _ c.loop-group.invariant.0 _ _ split _ _ put c.write_words.ensures.room),
      omega arith,
      omega arith,
    )

pub returns : goal.returns
returns g c =
    let none = at_drop_all (group_records c.loop-group.members c.loop-group.place) c.args.groups.now c.loop-group.group-index c.loop-group-test.false in
    let last = writing_last _ _ _ _ _ (rw none at c.loop-group.invariant.0) in
    record { taken = last.0; room = last.1 }
