-- A version of which one program is new.
use Rattle.std.proofs.Common.{◌≡◌, ◌∙◌, ℕ, ◌+◌, ◌≤◌, List, Some, [], ◌∷◌, ◌++◌, ap, arith, drop, inl, length, length-drop, refl, slice_get, subst, sym, take}
use Rattle.std.specs.List.{flat_map}
use Rattle.std.proofs.lemmas.List.{length-take, length-take-le}
use Rattle.std.proofs.lemmas.Option.{slice_get_within}
use Rattle.config_image.specs.Pooled.{pages_for, parts_of}
use Rattle.versions.specs.Free.{IsFreePage}
use Rattle.versions.specs.Table.{the_shape}
use Rattle.read_section.specs.Operator.{OperatorValue}
use Rattle.retire.specs.body.Filling.{AreFreeBelow, AreReady, FillsLast, FillsParts, IsReady}
use Rattle.retire.specs.body.Allocation.{AllFree, IsBehindNoneFree, IsCounted, NoneFree}
use Rattle.retire.proofs.PageLemmas.{FillsSome, last_filled, left_counted, left_ready, none_filled, one_program_more, stays}
use Rattle.retire.proofs.RunLemmas.{drop_twice, take_behind, take_twice}
use Rattle.retire.proofs.SharingLemmas.{further_on, in_front, length-parts}

-- programs that stand in front are passed
pass_front : (before : OperatorValue) (pages left : List ℕ) (all done rest : List (List ℕ)) → AreReady before all pages → IsCounted all pages → FillsSome before before pages left all (done ++ rest) → NoneFree before.view (take (length (flat_map parts_of done)) left)
    → FillsSome before before pages (drop (length (flat_map parts_of done)) left) all rest
pass_front before pages left all [] rest ready counted h none = h
pass_front before pages left all (words ∷ done) rest ready counted h none = subst (λ l. FillsSome before before pages l all rest) (drop_twice n m left ∙ ap (λ (k : ℕ). drop k left) (sym (length-parts words done)))
    (pass_front before pages (drop n left) all done rest ready counted
    (one_program_more before before pages left all (words ∷ (done ++ rest)) ready h words (done ++ rest) refl counted before (drop n left) refl
    (stays before before words (take n left) (left_ready before before pages left all (words ∷ (done ++ rest)) ready h words (done ++ rest) refl) first (length-take-le n left long) refl))
    later)
  where
    n : ℕ
    n = pages_for (length words)

    m : ℕ
    m = length (flat_map parts_of done)

    long : n ≤ length left
    long = left_counted before before pages left all (words ∷ (done ++ rest)) ready h words (done ++ rest) refl counted

    both : take (length (flat_map parts_of (words ∷ done))) left ≡ take (n + m) left
    both = ap (λ (k : ℕ). take k left) (length-parts words done)

    first : (page : ℕ) → slice_get (take n left) 0 ≡ Some page → IsFreePage the_shape before.view page → ⊥
    first page at free = none 0 page (ap (λ l. slice_get l 0) both ∙ in_front n (take (n + m) left) 0 page (ap (λ l. slice_get l 0) (take_twice n m left) ∙ at)) free

    later : NoneFree before.view (take m (drop n left))
    later index page at free =
        none (length (take n (take (n + m) left)) + index) page (ap (λ l. slice_get l (length (take n (take (n + m) left)) + index)) both ∙ further_on n (take (n + m) left) index page (ap (λ l. slice_get l index) (take_behind n m left) ∙ at)) free

module _ (operator after : OperatorValue) (pages : List ℕ) (all : List (List ℕ)) (ready : AreReady operator all pages) (counted : IsCounted all pages) (words : List ℕ) (at : ℕ) (h : IsBehindNoneFree operator.view all pages words at) where
  abbrev left_there : List ℕ
  left_there = drop (length (flat_map parts_of h.done)) pages

  there : FillsSome operator operator pages left_there all (words ∷ h.rest)
  there = pass_front operator pages pages all h.done (words ∷ h.rest) ready counted (none_filled operator pages all (h.done ++ words ∷ h.rest) ready (sym h.programs_are)) (subst (λ (n : ℕ). NoneFree operator.view (take n pages)) h.counted h.none)

  pub own_inside : at + pages_for (length words) ≤ length pages
  own_inside = let few = left_counted operator operator pages left_there all (words ∷ h.rest) ready there words h.rest refl counted in omega (arith, few, length-drop (length (flat_map parts_of h.done)) pages, h.counted, h.inside)

  pub own_ready : (own : List ℕ) → own ≡ take (pages_for (length words)) (drop at pages) → IsReady operator words own
  own_ready own own_is = subst (IsReady operator words) (sym (own_is ∙ ap (λ (n : ℕ). take (pages_for (length words)) (drop n pages)) h.counted)) (left_ready operator operator pages left_there all (words ∷ h.rest) ready there words h.rest refl)

  pub only_filled : (own : List ℕ) (end : ℕ) → own ≡ take (pages_for (length words)) (drop at pages) → AreFreeBelow operator.view pages end → FillsLast operator after words own end → FillsParts operator after pages (flat_map parts_of all)
  only_filled own end own_is below f =
      let is = own_is ∙ ap (λ (n : ℕ). take (pages_for (length words)) (drop n pages)) h.counted in
      let here = ap (λ l. slice_get l f.index) (sym is) ∙ f.at in
      last_filled operator operator after pages left_there all (words ∷ h.rest) ready there words h.rest refl counted (drop (pages_for (length words)) left_there) refl
      (inl (subst (AllFree operator.view) is f.free, subst (λ l. FillsParts operator after l (parts_of words)) is f.filled))
      end below f.index f.page (in_front (pages_for (length words)) left_there f.index f.page here)
      (omega (arith, slice_get_within (take (pages_for (length words)) left_there) f.index f.page here, length-take (pages_for (length words)) left_there)) (f.free f.index f.page f.at) f.last
