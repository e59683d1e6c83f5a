use Rattle.std.proofs.Common.{◌≡◌, ◌∙◌, arith, length, rules, sym}
use Rattle.config_image.specs.Image.{words_of}
use Rattle.config_image.proofs.WordLemmas.{member_records_more, word_of_member}
use Rattle.config_image.proofs.word.member_word.Goals as goal

pub returns-in-0 : goal.returns-in-0
returns-in-0 g c =
    let at : c.loop-member.left ≡ 0 = omega arith in
    sym c.loop-member.invariant.0 ∙ word_of_member c.args.members.now c.loop-member.member-index c.member-item.result c.loop-member-test.true c.member-item.is c.loop-member.place c.loop-member.left c.if-left-lt-MEMBER_WORDS.true ∙ rw at (cc)

pub returns-in-1 : goal.returns-in-1
returns-in-1 g c =
    let at : c.loop-member.left ≡ 1 = omega arith in
    sym c.loop-member.invariant.0 ∙ word_of_member c.args.members.now c.loop-member.member-index c.member-item.result c.loop-member-test.true c.member-item.is c.loop-member.place c.loop-member.left c.if-left-lt-MEMBER_WORDS.true ∙ rw at (cc)

pub returns-in-2 : goal.returns-in-2
returns-in-2 g c =
    let at : c.loop-member.left ≡ 2 = omega arith in
    sym c.loop-member.invariant.0 ∙ word_of_member c.args.members.now c.loop-member.member-index c.member-item.result c.loop-member-test.true c.member-item.is c.loop-member.place c.loop-member.left c.if-left-lt-MEMBER_WORDS.true ∙ rw at (search rules)

pub returns-in_default : goal.returns-in_default
returns-in_default g c =
    let at : c.loop-member.left ≡ 3 = omega arith in
    sym c.loop-member.invariant.0 ∙ word_of_member c.args.members.now c.loop-member.member-index c.member-item.result c.loop-member-test.true c.member-item.is c.loop-member.place c.loop-member.left c.if-left-lt-MEMBER_WORDS.true ∙ rw at (cc)

pub loop-member-preserved : goal.loop-member-preserved
loop-member-preserved g c =
    let counted : length c.words.result.now ≡ length (words_of c.member-item.result.filter) = search rules in
    let so_far = c.loop-member.invariant.1 in
    let past = c.if-left-lt-MEMBER_WORDS.false in
    let short = c.words.ensures.limited in
    let within = c.loop-member.invariant.2 in (
      member_records_more c.args.members.now c.loop-member.member-index c.member-item.result c.loop-member-test.true c.member-item.is c.loop-member.place c.loop-member.left _ past counted ∙ c.loop-member.invariant.0,
      omega arith,
      omega arith,
    )
