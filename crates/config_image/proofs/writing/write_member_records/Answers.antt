use Rattle.std.proofs.Common.{◌≡◌, ◌++◌, ap, arith, length, rules}
use Rattle.std.proofs.lemmas.List.{at_drop_all}
use Rattle.config_image.specs.Image.{filter_words, member_records, words_of}
use Rattle.config_image.proofs.WordLemmas.{filters_len-split, member_record, member_records-split}
use Rattle.config_image.proofs.WritingLemmas.{writing_last, writing_piece, writing_room}
use Rattle.config_image.proofs.writing.write_member_records.Goals as goal

pub write_words-requires : goal.write_words-requires
write_words-requires g c =
    let split = member_records-split c.args.members.now c.loop-member.member-index c.member-item.result c.loop-member-test.true c.member-item.is c.loop-member.place in
    record { room = writing_room _ _ _ _ _ _ c.loop-member.invariant.0 (member_record c.member-item.result c.loop-member.place) _ split }

pub loop-member-preserved : goal.loop-member-preserved
loop-member-preserved g c =
    let split = member_records-split c.args.members.now c.loop-member.member-index c.member-item.result c.loop-member-test.true c.member-item.is c.loop-member.place in
    let put : g.S.WordSink.taken c.write_words.new.sink ≡ g.S.WordSink.taken c.loop-member.sink ++ member_record c.member-item.result c.loop-member.place = search rules in
    let counted : length c.words.result.now ≡ length (words_of c.member-item.result.filter) = search rules in
    let less = filters_len-split c.args.members.now c.loop-member.member-index c.member-item.result c.loop-member-test.true c.member-item.is in
    (rw counted (writing_piece _ _ _ _ _ _ c.loop-member.invariant.0 _ _ split _ _ put c.write_words.ensures.room), omega arith, omega (arith, less, counted))

pub returns : goal.returns
returns g c =
    let none = at_drop_all (member_records c.loop-member.place) c.args.members.now c.loop-member.member-index c.loop-member-test.false in
    let last = writing_last _ _ _ _ _ (rw none at c.loop-member.invariant.0) in
    let left = ap length (at_drop_all filter_words c.args.members.now c.loop-member.member-index c.loop-member-test.false) in
    record { taken = last.0; room = last.1; behind = omega (arith, left); limited = omega arith }
