use Rattle.std.proofs.Common.{◌≡◌, ◌∙◌, ap, arith, length, rules, sym}
use Rattle.member_group.specs.Group.{IsGroup}
use Rattle.config_image.specs.Image.{words_of}
use Rattle.config_image.proofs.WordLemmas.{item_of_all, member_word_here, member_word_later, members_of-split}
use Rattle.config_image.proofs.word.members_word.Goals as goal

pub member_word-requires-clause-few : goal.member_word-requires-clause-few
member_word-requires-clause-few g c =
    rw c.members-then-left-records.ensures.members (item_of_all IsGroup c.args.groups.now c.loop-group.group-index c.group-item.result c.loop-group-test.true c.group-item.is c.requires.groups).limited

pub returns-then-left-records : goal.returns-then-left-records
returns-then-left-records g c =
    let selector : length c.words.result.now ≡ length (words_of c.group-item.result.selector) = search rules in
    let here = member_word_here c.args.groups.now c.loop-group.group-index c.group-item.result c.loop-group-test.true c.group-item.is c.loop-group.place c.loop-group.left _ _ (ap length c.members.ensures.members) selector c.if-left-records.true in
    sym c.loop-group.invariant.0 ∙ here ∙ rw c.members-then-left-records.ensures.members at c.member_word.ensures

pub loop-group-preserved : goal.loop-group-preserved
loop-group-preserved g c =
    let counted : length c.members.result.now ≡ length c.group-item.result.members = ap length c.members.ensures.members in
    let later = member_word_later c.args.groups.now c.loop-group.group-index c.group-item.result c.loop-group-test.true c.group-item.is c.loop-group.place c.loop-group.left _ _ counted c.programs_len-place.ensures.words c.if-left-records.false in
    let total = members_of-split c.args.groups.now c.loop-group.group-index c.group-item.result c.loop-group-test.true c.group-item.is in
    let inside = c.loop-group.invariant.1 in
    let past = c.if-left-records.false in
    let short = c.programs_len-place.ensures.limited in
    let within = c.loop-group.invariant.2 in (later ∙ c.loop-group.invariant.0, omega arith, omega arith)
