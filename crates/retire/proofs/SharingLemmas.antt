-- Programs that stand in pages, one behind the other: which pages a program has.
use Rattle.std.proofs.Common.{Bool, Contains, ◌==◌, ◌≡◌, ◌∙◌, ◌⊎◌, ℕ, ◌+◌, ◌-◌, ◌<◌, ◌≤◌, List, Some, [], ◌∷◌, ◌++◌, ap, arith, drop, false, inl, inr, length, length-append, length-drop, refl, slice_get, subst, suc, sym, take, true, zero}
use Rattle.std.specs.List.{flat_map}
use Rattle.std.proofs.lemmas.List.{drop-append-le, length-take-le, take-append-drop, take-append-le}
use Rattle.std.proofs.Math.Seq.{take-length}
use Rattle.std.proofs.lemmas.List.Concat.{flat_map-append, flat_map-cons}
use Rattle.config_image.specs.Pooled.{pages_for, parts_of}
use Rattle.config_image.proofs.PartsLemmas.{length-parts_of}
use Rattle.config_image.specs.Image.{Group}
use Rattle.config_image.specs.Walk.{words_of_programs}
use Rattle.config_image.proofs.ProgramLemmas.{parts-by_words}
use Rattle.versions.specs.declared.view.OperatorView.{OperatorView}
use Rattle.versions.proofs.ShapeLemmas.{parts_is}
use Rattle.read_section.specs.Operator.{StandsIn}
use Rattle.versions.proofs.MirrorLemmas.{none_some, some_same}
use Rattle.versions.proofs.OpenedLemmas.{slice_get-front_or_back}
use Rattle.versions.proofs.WorldLemmas.{slice_get-front}
use Rattle.retire.specs.Publish.{HasPages, pages_of_each}
use Rattle.retire.specs.body.Allocation.{IsBehind, IsCounted, IsNext, IsPassing}
use Rattle.retire.proofs.RowLemmas.{contains_first}

-- ---- places in lists

pub slice_get-back : {A : Type 0} → (xs ys : List A) (i j : ℕ) (x : A) → slice_get ys i ≡ Some x → length xs ≡ j → slice_get (xs ++ ys) (j + i) ≡ Some x
slice_get-back [] ys i zero x at e = ap (slice_get ys) (let g : 0 + i ≡ i = omega arith in g) ∙ at
slice_get-back [] ys i (suc j) x at e = absurd (omega arith)
slice_get-back (y ∷ xs) ys i zero x at e = absurd (omega arith)
slice_get-back (y ∷ xs) ys i (suc j) x at e = ap (slice_get (y ∷ (xs ++ ys))) (let g : suc j + i ≡ suc (j + i) = omega arith in g) ∙ slice_get-back xs ys i j x at (omega arith)

pub in_front : {A : Type 0} → (n : ℕ) (xs : List A) (i : ℕ) (x : A) → slice_get (take n xs) i ≡ Some x → slice_get xs i ≡ Some x
in_front n xs i x at = ap (λ l. slice_get l i) (sym (take-append-drop n xs)) ∙ slice_get-front (take n xs) (drop n xs) i x at

pub further_on : {A : Type 0} → (n : ℕ) (xs : List A) (i : ℕ) (x : A) → slice_get (drop n xs) i ≡ Some x → slice_get xs (length (take n xs) + i) ≡ Some x
further_on n xs i x at = ap (λ l. slice_get l (length (take n xs) + i)) (sym (take-append-drop n xs)) ∙ slice_get-back (take n xs) (drop n xs) i (length (take n xs)) x at refl

-- ---- the first of the programs, and the others

pub length-parts : (words : List ℕ) (others : List (List ℕ)) → length (flat_map parts_of (words ∷ others)) ≡ pages_for (length words) + length (flat_map parts_of others)
length-parts words others = ap length (flat_map-cons parts_of words others)
    ∙ (length-append (parts_of words) (flat_map parts_of others) ∙ ap (λ (n : ℕ). n + length (flat_map parts_of others)) (length-parts_of words))

module _ (words : List ℕ) (others : List (List ℕ)) (pages : List ℕ) (counted : IsCounted (words ∷ others) pages) where
  pub first_fits : pages_for (length words) ≤ length pages
  first_fits = omega (arith, counted, length-parts words others)

  pub length-first : length (take (pages_for (length words)) pages) ≡ pages_for (length words)
  length-first = length-take-le (pages_for (length words)) pages first_fits

  pub others_counted : IsCounted others (drop (pages_for (length words)) pages)
  others_counted = omega (arith, counted, length-parts words others, length-drop (pages_for (length words)) pages)

pub first_of : (programs : List (List ℕ)) (pages words : List ℕ) (others : List (List ℕ)) → programs ≡ words ∷ others → IsCounted programs pages → pages_for (length words) ≤ length pages
first_of programs pages words others is counted = first_fits words others pages (subst (λ l. IsCounted l pages) is counted)

-- a program's pages are as many as it has parts
pub own_counted : (programs : List (List ℕ)) (pages words own : List ℕ) → IsCounted programs pages → HasPages programs pages words own → length own ≡ pages_for (length words)
own_counted [] pages words own counted (index, at, there) = absurd (none_some words at)
own_counted (first ∷ others) pages words own counted (zero, at, there) =
    let e = some_same first words at in let f = some_same (take (pages_for (length first)) pages) own there in
    ap length (sym f) ∙ (length-first first others pages counted ∙ ap (λ (w : List ℕ). pages_for (length w)) e)
own_counted (first ∷ others) pages words own counted (suc index, at, there) =
    own_counted others (drop (pages_for (length first)) pages) words own (others_counted first others pages counted) (index, at, there)

-- a program's pages are among all
pub own_among : (programs : List (List ℕ)) (pages words own : List ℕ) → HasPages programs pages words own → (i page : ℕ) → slice_get own i ≡ Some page → (j : ℕ) × (slice_get pages j ≡ Some page)
own_among [] pages words own (index, at, there) i page here = absurd (none_some words at)
own_among (first ∷ others) pages words own (zero, at, there) i page here =
    (i, in_front (pages_for (length first)) pages i page (ap (λ l. slice_get l i) (some_same (take (pages_for (length first)) pages) own there) ∙ here))
own_among (first ∷ others) pages words own (suc index, at, there) i page here =
    let t = own_among others (drop (pages_for (length first)) pages) words own (index, at, there) i page here in
    (length (take (pages_for (length first)) pages) + t.0, further_on (pages_for (length first)) pages t.0 page t.1)

-- ---- one program is passed

pub nothing_behind : (programs : List (List ℕ)) (pages : List ℕ) → IsBehind programs pages programs pages
nothing_behind programs pages words own has = has

pub further_behind : (all : List (List ℕ)) (pages : List ℕ) (programs : List (List ℕ)) (behind : List ℕ) (others : List (List ℕ)) (left : List ℕ)
    → IsBehind all pages programs behind → IsBehind programs behind others left → IsBehind all pages others left
further_behind all pages programs behind others left far near words own has = far words own (near words own has)

module _ (programs : List (List ℕ)) (pages words own : List ℕ) (others : List (List ℕ)) (left : List ℕ) (next : IsNext programs pages words own others left) where
  pub next_behind : IsBehind programs pages others left
  next_behind other its (index, at, there) = subst (λ l. HasPages l pages other its) (sym next.first)
      (suc index, at, ap (λ l. slice_get (pages_of_each others l) index) (sym next.behind) ∙ there)

  pub next_counted : IsCounted programs pages → IsCounted others left
  next_counted counted = subst (IsCounted others) (sym next.behind) (others_counted words others pages (subst (λ l. IsCounted l pages) next.first counted))

  pub next_or_later : (other : List ℕ) → Contains programs other → (words ≡ other) ⊎ Contains others other
  next_or_later other c = contains_first words other others (subst (λ l. Contains l other) next.first c)

-- ---- the current version

pub stands_counted : (view : OperatorView (List Group)) (config : List Group) (pages : List ℕ) → StandsIn view config pages → IsCounted (words_of_programs config) pages
stands_counted view config pages stands = stands.holds.counted ∙ (ap length (parts_is config) ∙ ap length (parts-by_words config))

pub passing_from : (programs : List (List ℕ)) (pages : List ℕ) (all : List (List ℕ)) (left : List ℕ) → all ≡ programs → left ≡ pages → IsCounted programs pages → IsPassing programs pages all left
passing_from programs pages all left all_is left_is counted = subst (λ l. IsPassing programs pages l left) (sym all_is)
    (subst (IsPassing programs pages programs) (sym left_is) (record { counted = counted; left_counted = counted; behind = nothing_behind programs pages }))

pub true_false : true ≡ false → ⊥
true_false e = cc

pub not_empty : (own : List ℕ) (r : Bool) → r ≡ (length own == 0) → r ≡ false → 0 < length own
not_empty [] r e f = absurd (true_false (sym e ∙ f))
not_empty (x ∷ xs) r e f = omega arith

-- ---- programs and their pages, one after the other

length-pages_of_each : (programs : List (List ℕ)) (pages : List ℕ) → length (pages_of_each programs pages) ≡ length programs
length-pages_of_each [] pages = refl
length-pages_of_each (words ∷ rest) pages = ap suc (length-pages_of_each rest (drop (pages_for (length words)) pages))

take_all : {A : Type 0} → (n : ℕ) (xs : List A) → length xs ≡ n → take n xs ≡ xs
take_all n xs e = ap (λ (k : ℕ). take k xs) (sym e) ∙ take-length xs

pages_of_each-more : (programs : List (List ℕ)) (pages words own : List ℕ) → IsCounted programs pages → length own ≡ pages_for (length words)
    → pages_of_each (programs ++ words ∷ []) (pages ++ own) ≡ pages_of_each programs pages ++ own ∷ []
pages_of_each-more [] [] words own counted long = ap (λ l. l ∷ []) (take_all (pages_for (length words)) own long)
pages_of_each-more [] (page ∷ pages) words own counted long = absurd (omega (arith, counted))
pages_of_each-more (first ∷ rest) pages words own counted long =
    let fits = first_fits first rest pages counted in
    ap (λ l. l ∷ pages_of_each (rest ++ words ∷ []) (drop (pages_for (length first)) (pages ++ own))) (take-append-le (pages_for (length first)) pages own fits)
    ∙ ap (λ l. take (pages_for (length first)) pages ∷ l)
    (ap (pages_of_each (rest ++ words ∷ [])) (drop-append-le (pages_for (length first)) pages own fits)
    ∙ pages_of_each-more rest (drop (pages_for (length first)) pages) words own (others_counted first rest pages counted) long)

pub counted_more : (programs : List (List ℕ)) (pages words own : List ℕ) → IsCounted programs pages → length own ≡ pages_for (length words) → IsCounted (programs ++ words ∷ []) (pages ++ own)
counted_more programs pages words own counted long =
    omega (arith, length-append pages own, counted, long, ap length (flat_map-append parts_of programs (words ∷ [])), length-append (flat_map parts_of programs) (flat_map parts_of (words ∷ [])), length-parts words [])

-- the pages of each of them are those of the first ones, or those of the last one
pub each_more : (P : List ℕ → List ℕ → Type 0) (programs : List (List ℕ)) (pages words own : List ℕ) → IsCounted programs pages → length own ≡ pages_for (length words)
    → ((index : ℕ) (w o : List ℕ) → slice_get programs index ≡ Some w → slice_get (pages_of_each programs pages) index ≡ Some o → P w o) → P words own
    → (index : ℕ) (w o : List ℕ) → slice_get (programs ++ words ∷ []) index ≡ Some w → slice_get (pages_of_each (programs ++ words ∷ []) (pages ++ own)) index ≡ Some o → P w o
each_more P programs pages words own counted long each last index w o at there = by
    (slice_get-front_or_back programs (words ∷ []) index w at)
    (slice_get-front_or_back (pages_of_each programs pages) (own ∷ []) index o (ap (λ l. slice_get l index) (sym (pages_of_each-more programs pages words own counted long)) ∙ there))
  where
    same : length (pages_of_each programs pages) ≡ length programs
    same = length-pages_of_each programs pages

    only : {A : Type 0} → (x y : A) (i : ℕ) → slice_get (x ∷ []) i ≡ Some y → x ≡ y
    only x y zero e = some_same x y e
    only x y (suc i) e = absurd (none_some y e)

    by : ((index < length programs) × (slice_get programs index ≡ Some w)) ⊎ ((length programs ≤ index) × (slice_get (words ∷ []) (index - length programs) ≡ Some w))
        → ((index < length (pages_of_each programs pages)) × (slice_get (pages_of_each programs pages) index ≡ Some o)) ⊎ ((length (pages_of_each programs pages) ≤ index) × (slice_get (own ∷ []) (index - length (pages_of_each programs pages)) ≡ Some o)) → P w o
    by (inl (low, here)) (inl (below, its)) = each index w o here its
    by (inl (low, here)) (inr (up, its)) = absurd (omega (arith, same))
    by (inr (up, here)) (inl (below, its)) = absurd (omega (arith, same))
    by (inr (up, here)) (inr (up', its)) = subst (λ l. P l o) (only words w (index - length programs) here) (subst (P words) (only own o (index - length (pages_of_each programs pages)) its) last)
