use Rattle.std.proofs.Common.{◌≡◌, ◌∙◌, List, ap, arith, length, rules, sym}
use Rattle.std.proofs.lemmas.List.{at_drop_all}
use Rattle.std.proofs.lemmas.Option.{slice_get-get_or}
use Rattle.bpf_verify.specs.Program.{ProgramValue}
use Rattle.member_group.specs.declared.member.Member.{Member}
use Rattle.config_image.specs.Image.{filter_words, words_of}
use Rattle.config_image.proofs.WordLemmas.{filter_words-split, first_word, later_inside, later_word}
use Rattle.config_image.proofs.word.filter_word.Goals as goal

pub returns-then-left-filter : goal.returns-then-left-filter
returns-then-left-filter g c =
    let filter : c.words-filter.result.now ≡ words_of c.member-item.result.filter = search rules in
    let split = filter_words-split c.args.members.now c.loop-member.member-index c.member-item.result c.loop-member-test.true c.member-item.is in
    sym c.loop-member.invariant.0 ∙ first_word _ _ _ c.loop-member.left (length c.words-filter.result.now) split (ap length filter) c.if-left-filter.true
    ∙ rw (← filter) (slice_get-get_or c.words-filter.result.now c.loop-member.left 0 c.if-left-filter.true)

pub loop-member-preserved : goal.loop-member-preserved
loop-member-preserved g c =
    let filter : c.words-filter.result.now ≡ words_of c.member-item.result.filter = search rules in
    let split = filter_words-split c.args.members.now c.loop-member.member-index c.member-item.result c.loop-member-test.true c.member-item.is in (
      later_word _ _ _ c.loop-member.left _ split (ap length filter) c.if-left-filter.false ∙ c.loop-member.invariant.0,
      later_inside _ _ _ c.loop-member.left _ split (ap length filter) c.if-left-filter.false c.loop-member.invariant.1,
    )

pub unreachable-requires : goal.unreachable-requires
unreachable-requires g c =
    let none = at_drop_all (λ (rest : List (Member ProgramValue)). length (filter_words rest)) c.args.members.now c.loop-member.member-index c.loop-member-test.false in
    let inside = c.loop-member.invariant.1 in omega arith
