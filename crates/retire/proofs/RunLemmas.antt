-- Runs of programs that have the words of those of the current version.
use Rattle.std.proofs.Common.{◌≡◌, ◌∙◌, ◌+◌, ◌≤◌, IfNone, IfSome, List, None, Option, Some, [], ◌∷◌, ◌++◌, ap, append_assoc, arith, drop, inl, length, length-append, length-drop, refl, slice_get, subst, suc, sym, take, zero, ℕ}
use Rattle.std.specs.List.{flat_map}
use Rattle.std.proofs.lemmas.List.{append-nil, length-take-le, take-append-drop, take-append-le}
use Rattle.std.proofs.lemmas.List.Concat.{flat_map-append}
use Rattle.config_image.specs.Pooled.{pages_for, parts_of}
use Rattle.config_image.specs.Image.{Group}
use Rattle.versions.specs.declared.view.OperatorView.{OperatorView}
use Rattle.versions.proofs.MirrorLemmas.{none_some}
use Rattle.retire.specs.Publish.{HasPages, pages_of_each}
use Rattle.retire.specs.body.Allocation.{IsBehind, IsBehindNoneFree, IsCounted, IsNext, NoneFree, Passes, SharesRun, AllocationValue}
use Rattle.retire.proofs.SharingLemmas.{further_behind, in_front, length-parts, own_counted}
use Rattle.retire.proofs.AllocationLemmas.{SomeAllocated, own_held, shared_too, allocated_for_next}

-- ---- places in lists

abbrev nothing : List ℕ
nothing = []

none_dropped : (n : ℕ) → drop n nothing ≡ nothing
none_dropped zero = refl
none_dropped (suc n) = refl

none_allocated : (n : ℕ) → take n nothing ≡ nothing
none_allocated zero = refl
none_allocated (suc n) = refl

pub drop_twice : (a b : ℕ) (xs : List ℕ) → drop b (drop a xs) ≡ drop (a + b) xs
drop_twice zero b xs = ap (λ (n : ℕ). drop n xs) (let g : b ≡ 0 + b = omega arith in g)
drop_twice (suc a) b [] = none_dropped b ∙ sym (none_dropped (suc a + b))
drop_twice (suc a) b (x ∷ xs) = drop_twice a b xs ∙ ap (λ (n : ℕ). drop n (x ∷ xs)) (let g : suc (a + b) ≡ suc a + b = omega arith in g)

-- ---- a run, one program after the other

-- so many programs were passed on both sides, and these are left
pub record IsRunning (programs current : List (List ℕ)) (pages : List ℕ) (rest left : List (List ℕ)) (others : List ℕ) (count : ℕ) : Type 0 where
  pub same : List (List ℕ)
  pub programs_are : programs ≡ same ++ rest
  pub current_are : current ≡ same ++ left
  pub counted : count ≡ length (flat_map parts_of same)
  pub pages_are : others ≡ drop count pages
  pub fits : count ≤ length pages
  pub left_counted : IsCounted left others
  pub behind : IsBehind current pages left others

pub none_passed_yet : (programs current : List (List ℕ)) (pages : List ℕ) → IsCounted current pages → IsRunning programs current pages programs current pages 0
none_passed_yet programs current pages counted = record {
  same = [];
  programs_are = refl;
  current_are = refl;
  counted = refl;
  pages_are = refl;
  fits = omega arith;
  left_counted = counted;
  behind = λ words own has. has;
}

module _ (programs current : List (List ℕ)) (pages : List ℕ) (rest left : List (List ℕ)) (others : List ℕ) (count : ℕ) (h : IsRunning programs current pages rest left others count) where
  pub passes : (own : List ℕ) (what : List (List ℕ)) → rest ≡ what → own ≡ take count pages → Passes programs current pages own what
  passes own what is own_is = record {
    same = h.same;
    left = left;
    programs_are = h.programs_are ∙ ap (λ l. h.same ++ l) is;
    current_are = h.current_are;
    fits = omega (arith, h.counted, h.fits);
    own_is = own_is ∙ ap (λ (n : ℕ). take n pages) h.counted;
  }

  module _ (words : List ℕ) (rest' left' : List (List ℕ)) (own others' : List ℕ) (next : rest ≡ words ∷ rest') (is : IsNext left others words own left' others') where
    first_fits : pages_for (length words) ≤ length others
    first_fits = omega (arith, h.left_counted, ap length (ap (flat_map parts_of) is.first), length-parts words left')

    length-own : length own ≡ pages_for (length words)
    length-own = ap length is.front ∙ length-take-le (pages_for (length words)) others first_fits

    pub run_fits : count + length own ≤ length pages
    run_fits = omega (arith, length-own, first_fits, ap length h.pages_are, length-drop count pages, h.fits)

    pub one_passed_more : IsBehind left others left' others' → IsCounted left' others' → IsRunning programs current pages rest' left' others' (count + length own)
    one_passed_more behind counted = record {
      same = h.same ++ words ∷ [];
      programs_are = h.programs_are ∙ (ap (λ l. h.same ++ l) next ∙ sym (append_assoc h.same (words ∷ []) rest'));
      current_are = h.current_are ∙ (ap (λ l. h.same ++ l) is.first ∙ sym (append_assoc h.same (words ∷ []) left'));
      counted = omega (arith, h.counted, length-own, ap length (flat_map-append parts_of h.same (words ∷ [])), length-append (flat_map parts_of h.same) (flat_map parts_of (words ∷ [])), length-parts words []);
      pages_are = is.behind ∙ (ap (drop (pages_for (length words))) h.pages_are ∙ (drop_twice count (pages_for (length words)) pages ∙ ap (λ (n : ℕ). drop (count + n) pages) (sym length-own)));
      fits = run_fits;
      left_counted = counted;
      behind = further_behind current pages left others left' others' h.behind behind;
    }

-- ---- the pages of a run

pub take_twice : (n m : ℕ) (xs : List ℕ) → take n (take (n + m) xs) ≡ take n xs
take_twice zero m xs = refl
take_twice (suc n) m [] = ap (λ (k : ℕ). take (suc n) (take k [])) (let g : suc n + m ≡ suc (n + m) = omega arith in g)
take_twice (suc n) m (x ∷ xs) = ap (λ (k : ℕ). take (suc n) (take k (x ∷ xs))) (let g : suc n + m ≡ suc (n + m) = omega arith in g) ∙ ap (λ l. x ∷ l) (take_twice n m xs)

pub take_behind : (n m : ℕ) (xs : List ℕ) → drop n (take (n + m) xs) ≡ take m (drop n xs)
take_behind zero m xs = ap (λ (k : ℕ). take k xs) (let g : 0 + m ≡ m = omega arith in g)
take_behind (suc n) m [] = ap (λ (k : ℕ). drop (suc n) (take k [])) (let g : suc n + m ≡ suc (n + m) = omega arith in g) ∙ sym (none_allocated m)
take_behind (suc n) m (x ∷ xs) = ap (λ (k : ℕ). drop (suc n) (take k (x ∷ xs))) (let g : suc n + m ≡ suc (n + m) = omega arith in g) ∙ take_behind n m xs

run_has : (same left : List (List ℕ)) (pages : List ℕ) (index : ℕ) (words o : List ℕ) → slice_get same index ≡ Some words → slice_get (pages_of_each same (take (length (flat_map parts_of same)) pages)) index ≡ Some o → HasPages (same ++ left) pages words o
run_has [] left pages index words o at there = absurd (none_some words at)
run_has (first ∷ same) left pages zero words o at there =
    (0, at, ap Some (sym (take_twice (pages_for (length first)) (length (flat_map parts_of same)) pages)) ∙ (ap (λ (n : ℕ). Some (take (pages_for (length first)) (take n pages))) (sym (length-parts first same)) ∙ there))
run_has (first ∷ same) left pages (suc index) words o at there =
    let t = run_has same left (drop (pages_for (length first)) pages) index words o at
    (ap (λ l. slice_get (pages_of_each same l) index) (sym (take_behind (pages_for (length first)) (length (flat_map parts_of same)) pages)) ∙ (ap (λ (n : ℕ). slice_get (pages_of_each same (drop (pages_for (length first)) (take n pages))) index) (sym (length-parts first same)) ∙ there)) in
    (suc t.0, t.1, t.2)

module _ (programs current : List (List ℕ)) (pages own : List ℕ) (rest : List (List ℕ)) (h : Passes programs current pages own rest) where
  pub run_counted : IsCounted h.same own
  run_counted = ap length h.own_is ∙ length-take-le (length (flat_map parts_of h.same)) pages h.fits

  -- they are pages of programs that stood, where these are among all that stand
  pub run_shared : (earlier : List (List ℕ)) (all : List ℕ) → IsBehind earlier all current pages → (before after : AllocationValue) → after ≡ record { pages = before.pages ++ own; from = before.from } → SharesRun earlier all programs rest before after
  run_shared earlier all behind before after e = record {
    same = h.same;
    own = own;
    programs_are = h.programs_are;
    counted = run_counted;
    each = λ index words o at there. behind words o (subst (λ l. HasPages l pages words o) (sym h.current_are) (run_has h.same h.left pages index words o at (ap (λ l. slice_get (pages_of_each h.same l) index) (sym h.own_is) ∙ there)));
    allocation = e;
  }

-- ---- none is free before a program

pub none_before : (view : OperatorView (List Group)) (all : List (List ℕ)) (pages more words : List ℕ) (at : ℕ) → IsBehindNoneFree view all pages words at → IsBehindNoneFree view all (pages ++ more) words at
none_before view all pages more words at h = record {
  done = h.done;
  rest = h.rest;
  programs_are = h.programs_are;
  counted = h.counted;
  inside = omega (arith, h.inside, length-append pages more);
  none = subst (NoneFree view) (sym (take-append-le at pages more h.inside)) h.none;
}

-- so it is with more pages
pub none_before_more : (view : OperatorView (List Group)) (all : List (List ℕ)) (pages own after words : List ℕ) (at : ℕ) → after ≡ pages ++ own → IsBehindNoneFree view all pages words at → IsBehindNoneFree view all after words at
none_before_more view all pages own after words at is h = subst (λ l. IsBehindNoneFree view all l words at) (sym is) (none_before view all pages own words at h)

-- what holds of all that an option may have
pub if_some : {A : Type 0} {P Q : A → Type 0} (o : Option A) → ((x : A) → P x → Q x) → IfSome o P → IfSome o Q
if_some None f h = h
if_some (Some x) f h = f x h

pub if_none : {A P Q : Type 0} (o : Option A) → (P → Q) → IfNone o P → IfNone o Q
if_none None f h = f h
if_none (Some x) f h = h

-- ---- pages for a run

module _ (view : OperatorView (List Group)) (earlier : List (List ℕ)) (current_pages : List ℕ) (counted : IsCounted earlier current_pages) (held : NoneFree view current_pages) (all : List (List ℕ)) where
  several_allocated : (same rest : List (List ℕ)) (own : List ℕ) (allocation : AllocationValue) → SomeAllocated view earlier current_pages all (same ++ rest) allocation → IsCounted same own
      → ((index : ℕ) (words o : List ℕ) → slice_get same index ≡ Some words → slice_get (pages_of_each same own) index ≡ Some o → HasPages earlier current_pages words o)
      → SomeAllocated view earlier current_pages all rest (record { pages = allocation.pages ++ own; from = allocation.from })
  several_allocated [] rest [] allocation h long each = subst (λ l. SomeAllocated view earlier current_pages all rest (record { pages = l; from = allocation.from })) (sym (append-nil allocation.pages)) h
  several_allocated [] rest (page ∷ own) allocation h long each = absurd (omega (arith, long))
  several_allocated (words ∷ same) rest own allocation h long each =
      subst (λ l. SomeAllocated view earlier current_pages all rest (record { pages = l; from = allocation.from })) (append_assoc allocation.pages first behind ∙ ap (λ l. allocation.pages ++ l) (take-append-drop n own))
      (several_allocated same rest behind next
      (allocated_for_next view earlier current_pages all (words ∷ (same ++ rest)) allocation h words (same ++ rest) refl next
      (shared_too view allocation h.allocation_is first (own_held view earlier current_pages words first held (each 0 words first refl refl)))
      (record { own = first; counted = own_counted earlier current_pages words first counted (each 0 words first refl refl); takes = inl (each 0 words first refl refl); pages = refl }))
      (omega (arith, long, length-parts words same, length-drop n own))
      (λ index w o at there. each (suc index) w o at there))
    where
      n : ℕ
      n = pages_for (length words)

      first : List ℕ
      first = take n own

      behind : List ℕ
      behind = drop n own

      next : AllocationValue
      next = record { pages = allocation.pages ++ first; from = allocation.from }

  pub run_allocated : (programs rest : List (List ℕ)) (before after : AllocationValue) → SomeAllocated view earlier current_pages all programs before → SharesRun earlier current_pages programs rest before after → SomeAllocated view earlier current_pages all rest after
  run_allocated programs rest before after h run = subst (SomeAllocated view earlier current_pages all rest) (sym run.allocation)
      (several_allocated run.same rest run.own before (subst (λ l. SomeAllocated view earlier current_pages all l before) run.programs_are h) run.counted run.each)

  -- the same, where the programs and pages that stand are told by another name
  pub run_beside : (programs rest : List (List ℕ)) (before after : AllocationValue) → SomeAllocated view earlier current_pages all programs before → (told : List (List ℕ)) (pages : List ℕ) → told ≡ earlier → pages ≡ current_pages
      → SharesRun told pages programs rest before after → SomeAllocated view earlier current_pages all rest after
  run_beside programs rest before after h told pages told_is pages_are run =
      run_allocated programs rest before after h (subst (λ l. SharesRun l current_pages programs rest before after) told_is (subst (λ l. SharesRun told l programs rest before after) pages_are run))

  -- if no free page was allocated yet, none is free before the next program
  pub none_free_yet : (words : List ℕ) (rest : List (List ℕ)) (allocation : AllocationValue) → SomeAllocated view earlier current_pages all (words ∷ rest) allocation → allocation.from ≡ 0 → IsBehindNoneFree view all allocation.pages words (length allocation.pages)
  none_free_yet words rest allocation h none = record {
    done = h.done;
    rest = rest;
    programs_are = h.all_are;
    counted = h.counted;
    inside = omega arith;
    none = λ index page at free. let low = h.allocation_is.below index page (in_front (length allocation.pages) allocation.pages index page at) free in omega arith;
  }

  -- there is room for the pages of all that are left
  pub room_for_run : (most : ℕ) (programs : List (List ℕ)) (allocation : AllocationValue) → SomeAllocated view earlier current_pages all programs allocation → length (flat_map parts_of all) ≤ most → length allocation.pages + length (flat_map parts_of programs) ≤ most
  room_for_run most programs allocation h few = omega (arith, few, h.counted, ap length (ap (flat_map parts_of) h.all_are ∙ flat_map-append parts_of h.done programs), length-append (flat_map parts_of h.done) (flat_map parts_of programs))
