use Rattle.std.proofs.Common.{◌≡◌, IfSome, MatchOption, [], ap, arith, length, refl, subst, sym}
use Rattle.config_image.specs.Walk.{words_of_programs}
use Rattle.config_image.proofs.ProgramLemmas.{parts-by_words}
use Rattle.retire.specs.body.Diff.{DifferInOne, pages_in}
use Rattle.retire.specs.body.Allocation.{IsBehindNoneFree, AllocationValue}
use Rattle.retire.proofs.ReplacedLemmas.{all_shared, as_many, none_before_one, one_inside, others_shared, whole_allocated}
use Rattle.retire.proofs.AllocationLemmas.{SomeAllocated, all_allocated, current_held}
use Rattle.retire.proofs.pages.choose_alike.Goals.{in-Some-differs, in-None}
use Rattle.retire.proofs.pages.choose_alike.Goals as goal

pub compare-requires : goal.compare-requires
compare-requires g c = record { room = omega (arith, c.requires.enough, c.requires.limit, ap length (parts-by_words c.args.config.now)) }

pub replace_one-requires : goal.replace_one-requires
replace_one-requires g c = let view = c.args.operator.now.view in let of = c.of-current.result in let programs = words_of_programs c.args.config.now in let earlier = words_of_programs of.config.now in
    let counted = c.of-current.ensures.none_passed.counted in let held = current_held view of.config.now of.pages.now c.of-current.ensures.stands in
    let differ = subst (λ o. MatchOption o (programs ≡ earlier) (λ one. DifferInOne programs earlier one.0.now one.1)) c.in-Some-differs.is c.in-Some.ensures.passed.differ in
    let many = as_many view earlier of.pages.now counted held programs c.in-Some-differs.words.now c.in-Some-differs.at differ in
    let inside = one_inside view earlier of.pages.now counted held programs c.in-Some-differs.words.now c.in-Some-differs.at differ in
    (omega (arith, c.requires.limit), (c.requires.row, (c.of-current.ensures.none_passed, (held, (omega (arith, many, c.requires.enough, ap length (parts-by_words c.args.config.now)), (c.requires.limit, (inside, c.requires.none)))))))

pub share-requires : goal.share-requires
share-requires g c = let of = c.of-current.result in let programs = words_of_programs c.args.config.now in let earlier = words_of_programs of.config.now in
    let same : programs ≡ earlier = subst (λ o. MatchOption o (programs ≡ earlier) (λ one. DifferInOne programs earlier one.0.now one.1)) c.in-None.is c.in-Some.ensures.passed.differ in (
      omega (arith, c.requires.limit),
      omega (
        arith,
        c.requires.enough,
        ap length (parts-by_words c.args.config.now),
        ap pages_in same,
        c.of-current.ensures.none_passed.counted,
        ap length c.pages.ensures,
        ap (λ (v : AllocationValue). length v.pages) c.requires.none,
      ),
    )

pub returns-clause-chosen : goal.returns-clause-chosen
returns-clause-chosen g c = let view = c.args.operator.now.view in let of = c.of-current.result in let programs = words_of_programs c.args.config.now in let earlier = words_of_programs of.config.now in
    let counted = c.of-current.ensures.none_passed.counted in let held = current_held view of.config.now of.pages.now c.of-current.ensures.stands in let differ = c.in-Some.ensures.passed.differ in
    let allocation : SomeAllocated view earlier of.pages.now programs [] c.match-walk.allocation = elim c.match-walk.branch [
      | in-Some-differs w ↦ let one = subst (λ o. MatchOption o (programs ≡ earlier) (λ one. DifferInOne programs earlier one.0.now one.1)) w.in-Some-differs.is differ in
          subst (SomeAllocated view earlier of.pages.now programs []) (sym w.allocation-is)
          (others_shared view earlier of.pages.now counted held programs w.in-Some-differs.words.now w.in-Some-differs.at one w.replace_one.new.allocation w.replace_one.ensures.replaced)
      | in-None w ↦ let same = subst (λ o. MatchOption o (programs ≡ earlier) (λ one. DifferInOne programs earlier one.0.now one.1)) w.in-None.is differ in
          subst (SomeAllocated view earlier of.pages.now programs []) (sym w.allocation-is)
          (all_shared view earlier of.pages.now counted held programs w.share.new.self same (whole_allocated c.args.allocation.now w.share.new.self of.pages.now w.pages.result.now c.requires.none w.pages.ensures w.share.ensures))
    ] in
    let t = all_allocated view earlier of.pages.now programs [] c.match-walk.allocation allocation refl in
    record { earlier = of.config.now; current = c.of-current.ensures.current; current_pages = of.pages.now; stands = c.of-current.ensures.stands; takes = t.0; counted = t.1 }

pub returns-clause-below : goal.returns-clause-below
returns-clause-below g c = let view = c.args.operator.now.view in let of = c.of-current.result in let programs = words_of_programs c.args.config.now in let earlier = words_of_programs of.config.now in
    let counted = c.of-current.ensures.none_passed.counted in let held = current_held view of.config.now of.pages.now c.of-current.ensures.stands in let differ = c.in-Some.ensures.passed.differ in
    let allocation : SomeAllocated view earlier of.pages.now programs [] c.match-walk.allocation = elim c.match-walk.branch [
      | in-Some-differs w ↦ let one = subst (λ o. MatchOption o (programs ≡ earlier) (λ one. DifferInOne programs earlier one.0.now one.1)) w.in-Some-differs.is differ in
          subst (SomeAllocated view earlier of.pages.now programs []) (sym w.allocation-is)
          (others_shared view earlier of.pages.now counted held programs w.in-Some-differs.words.now w.in-Some-differs.at one w.replace_one.new.allocation w.replace_one.ensures.replaced)
      | in-None w ↦ let same = subst (λ o. MatchOption o (programs ≡ earlier) (λ one. DifferInOne programs earlier one.0.now one.1)) w.in-None.is differ in
          subst (SomeAllocated view earlier of.pages.now programs []) (sym w.allocation-is)
          (all_shared view earlier of.pages.now counted held programs w.share.new.self same (whole_allocated c.args.allocation.now w.share.new.self of.pages.now w.pages.result.now c.requires.none w.pages.ensures w.share.ensures))
    ] in
    allocation.allocation_is.below

pub returns-clause-first : goal.returns-clause-first
returns-clause-first g c = let view = c.args.operator.now.view in let of = c.of-current.result in let programs = words_of_programs c.args.config.now in let earlier = words_of_programs of.config.now in
    let counted = c.of-current.ensures.none_passed.counted in let held = current_held view of.config.now of.pages.now c.of-current.ensures.stands in let differ = c.in-Some.ensures.passed.differ in
    elim c.match-walk.branch [
      | in-Some-differs w ↦ let one = subst (λ o. MatchOption o (programs ≡ earlier) (λ one. DifferInOne programs earlier one.0.now one.1)) w.in-Some-differs.is differ in
          subst (λ o. IfSome o (λ first. IsBehindNoneFree view programs c.match-walk.allocation.pages first.0.now first.1)) (sym w.in-Some-differs.is)
          (subst (λ (v : AllocationValue). IsBehindNoneFree view programs v.pages w.in-Some-differs.words.now w.in-Some-differs.at) (sym w.allocation-is)
          (none_before_one view earlier of.pages.now counted held programs w.in-Some-differs.words.now w.in-Some-differs.at one w.replace_one.new.allocation w.replace_one.ensures.replaced))
      | in-None w ↦ subst (λ o. IfSome o (λ first. IsBehindNoneFree view programs c.match-walk.allocation.pages first.0.now first.1)) (sym w.in-None.is) tt
    ]
