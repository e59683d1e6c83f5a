use Rattle.std.proofs.Common.{◌≡◌, ◌∷◌, arith}
use Rattle.config_image.proofs.EntryLemmas.{first_fits, left_behind, no_part_left, part_fits, place_fits, place_behind, place_in_first, size_step}
use Rattle.config_image.proofs.pooled.part_place.Goals as goal

pub pages_for-count-requires : goal.pages_for-count-requires
pages_for-count-requires g c =
    let step : c.loop-words.words-iterator ≡ c.in-Some.words.now ∷ c.next.new.self = c.in-Some.ensures.steps in
    let fits = (first_fits _ _ _ step c.loop-words.place _ _ c.loop-words.invariant.2 c.requires.limited).0 in omega arith

pub overflow_mul-result : goal.overflow_mul-result
overflow_mul-result g c =
    let step : c.loop-words.words-iterator ≡ c.in-Some.words.now ∷ c.next.new.self = c.in-Some.ensures.steps in
    place_fits _ (part_fits _ _ _ step c.loop-words.left _ c.loop-words.place _ _ c.pages_for-count.ensures c.if-left-count.true c.loop-words.invariant.2 c.requires.limited).0

pub overflow_add-result : goal.overflow_add-result
overflow_add-result g c =
    let step : c.loop-words.words-iterator ≡ c.in-Some.words.now ∷ c.next.new.self = c.in-Some.ensures.steps in
    place_fits _ (part_fits _ _ _ step c.loop-words.left _ c.loop-words.place _ _ c.pages_for-count.ensures c.if-left-count.true c.loop-words.invariant.2 c.requires.limited).1

pub overflow_add-place : goal.overflow_add-place
overflow_add-place g c =
    let step : c.loop-words.words-iterator ≡ c.in-Some.words.now ∷ c.next.new.self = c.in-Some.ensures.steps in
    place_fits _ (first_fits _ _ _ step c.loop-words.place _ _ c.loop-words.invariant.2 c.requires.limited).1

pub returns-then-left-count : goal.returns-then-left-count
returns-then-left-count g c =
    let step : c.loop-words.words-iterator ≡ c.in-Some.words.now ∷ c.next.new.self = c.in-Some.ensures.steps in
    place_in_first _ _ _ step c.loop-words.left _ c.loop-words.place _ c.pages_for-count.ensures c.if-left-count.true c.loop-words.invariant.0

pub loop-words-preserved : goal.loop-words-preserved
loop-words-preserved g c =
    let step : c.loop-words.words-iterator ≡ c.in-Some.words.now ∷ c.next.new.self = c.in-Some.ensures.steps in (
      place_behind _ _ _ step c.loop-words.left _ c.loop-words.place _ c.pages_for-count.ensures c.if-left-count.false c.loop-words.invariant.0,
      left_behind _ _ _ step c.loop-words.left _ c.pages_for-count.ensures c.if-left-count.false c.loop-words.invariant.1,
      size_step _ _ _ step c.loop-words.place _ c.loop-words.invariant.2,
    )

pub unreachable-requires : goal.unreachable-requires
unreachable-requires g c = no_part_left _ _ c.in-None.ensures.steps.0 c.loop-words.invariant.1
