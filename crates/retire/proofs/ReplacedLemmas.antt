-- Pages of a version that is like the current one: all programs but one at most take the pages that they had.
use Rattle.std.proofs.Common.{◌≡◌, ◌∙◌, ℕ, ◌+◌, ◌≤◌, List, [], ◌∷◌, ◌++◌, ap, append_assoc, arith, drop, length, length-append, length-drop, refl, subst, sym, take}
use Rattle.std.proofs.lemmas.List.{append-nil, length-take-le, take-append-le}
use Rattle.std.proofs.Math.Seq.{take-length}
use Rattle.config_image.specs.Image.{Group}
use Rattle.config_image.specs.Pooled.{pages_for}
use Rattle.versions.specs.declared.view.OperatorView.{OperatorView}
use Rattle.retire.specs.body.Diff.{DifferInOne, pages_in}
use Rattle.retire.specs.body.Allocation.{IsBehind, IsBehindNoneFree, IsCounted, NoneFree, ReplacesOne, AllocationValue}
use Rattle.retire.proofs.DiffLemmas.{pages-append, pages-one}
use Rattle.retire.proofs.RunLemmas.{drop_twice, run_shared, run_allocated}
use Rattle.retire.proofs.SharingLemmas.{further_behind, in_front, length-parts, next_behind, nothing_behind}
use Rattle.retire.proofs.AllocationLemmas.{SomeAllocated, none_allocated_yet, allocated_for_next}

-- what stands behind some programs
behind_dropped : (done left : List (List ℕ)) (pages : List ℕ) → IsBehind (done ++ left) pages left (drop (pages_in done) pages)
behind_dropped [] left pages = nothing_behind left pages
behind_dropped (words ∷ done) left pages = further_behind (words ∷ (done ++ left)) pages (done ++ left) (drop (pages_for (length words)) pages) left (drop (pages_in (words ∷ done)) pages)
    (next_behind (words ∷ (done ++ left)) pages words (take (pages_for (length words)) pages) (done ++ left) (drop (pages_for (length words)) pages) (record { first = refl; front = refl; behind = refl }))
    (subst (IsBehind (done ++ left) (drop (pages_for (length words)) pages) left)
    (drop_twice (pages_for (length words)) (pages_in done) pages ∙ ap (λ (k : ℕ). drop k pages) (sym (length-parts words done)))
    (behind_dropped done left (drop (pages_for (length words)) pages)))

take_whole : (n : ℕ) (xs : List ℕ) → length xs ≡ n → take n xs ≡ xs
take_whole n xs e = ap (λ (k : ℕ). take k xs) (sym e) ∙ take-length xs

abbrev pub nothing : AllocationValue
nothing = record { pages = []; from = 0 }

-- the first pages are shared
pub front_allocated : (allocation after : AllocationValue) (current_pages pages : List ℕ) (at : ℕ) → allocation ≡ nothing → pages ≡ current_pages → after ≡ record { pages = allocation.pages ++ take at pages; from = allocation.from }
    → after ≡ record { pages = take at current_pages; from = 0 }
front_allocated allocation after current_pages pages at none is e = e ∙ (ap (λ (v : AllocationValue). record { pages = v.pages ++ take at pages; from = v.from }) none ∙ ap (λ l. record { pages = take at l; from = 0 }) is)

pub whole_allocated : (allocation after : AllocationValue) (current_pages pages : List ℕ) → allocation ≡ nothing → pages ≡ current_pages → after ≡ record { pages = allocation.pages ++ pages; from = allocation.from } → after ≡ record { pages = current_pages; from = 0 }
whole_allocated allocation after current_pages pages none is e = e ∙ (ap (λ (v : AllocationValue). record { pages = v.pages ++ pages; from = v.from }) none ∙ ap (λ l. record { pages = l; from = 0 }) is)

pub length-front : (after : AllocationValue) (current_pages : List ℕ) (at : ℕ) → after ≡ record { pages = take at current_pages; from = 0 } → at ≤ length current_pages → length after.pages ≡ at
length-front after current_pages at e few = ap (λ (v : AllocationValue). length v.pages) e ∙ length-take-le at current_pages few

pub front_held : (view : OperatorView (List Group)) (current_pages : List ℕ) → NoneFree view current_pages → (at : ℕ) → NoneFree view (take at current_pages)
front_held view current_pages held at index page there = held index page (in_front at current_pages index page there)

module _ (view : OperatorView (List Group)) (earlier : List (List ℕ)) (current_pages : List ℕ) (counted : IsCounted earlier current_pages) (held : NoneFree view current_pages) where
  -- the first of the programs that are left take the first of these pages
  run : (all same left rest : List (List ℕ)) (pages : List ℕ) (now after : AllocationValue) → IsBehind earlier current_pages (same ++ left) pages → pages_in same ≤ length pages
      → SomeAllocated view earlier current_pages all (same ++ rest) now → after ≡ record { pages = now.pages ++ take (pages_in same) pages; from = now.from } → SomeAllocated view earlier current_pages all rest after
  run all same left rest pages now after behind fits h e = run_allocated view earlier current_pages counted held all (same ++ rest) rest now after h
      (run_shared (same ++ rest) (same ++ left) pages (take (pages_in same) pages) rest
      (record { same = same; left = left; programs_are = refl; current_are = refl; fits = fits; own_is = refl }) earlier current_pages behind now after e)

  -- all of them take theirs
  pub all_shared : (programs : List (List ℕ)) (after : AllocationValue) → programs ≡ earlier → after ≡ record { pages = current_pages; from = 0 } → SomeAllocated view earlier current_pages programs [] after
  all_shared programs after same e = subst (λ l. SomeAllocated view earlier current_pages l [] after) (sym same)
      (run earlier earlier [] [] current_pages nothing after (subst (λ l. IsBehind earlier current_pages l current_pages) (sym (append-nil earlier)) (nothing_behind earlier current_pages)) (omega (arith, counted))
      (none_allocated_yet view earlier current_pages earlier (earlier ++ []) nothing (append-nil earlier) refl)
      (e ∙ ap (λ l. record { pages = l; from = 0 }) (sym (take_whole (pages_in earlier) current_pages counted))))

  module _ (programs : List (List ℕ)) (words : List ℕ) (at : ℕ) (d : DifferInOne programs earlier words at) where
    whole : length current_pages ≡ at + (pages_for (length words) + pages_in d.rest)
    whole = counted ∙ (ap pages_in d.others_are ∙ (pages-append d.done (d.old ∷ d.rest) ∙ (let n = length-parts d.old d.rest in let same : pages_for (length words) ≡ pages_for (length d.old) = ap pages_for d.sized in omega (arith, n, same, d.before))))

    pub as_many : length current_pages ≡ pages_in programs
    as_many = whole ∙ (let n = length-parts words d.rest in let all = ap pages_in d.programs_are ∙ pages-append d.done (words ∷ d.rest) in omega (arith, n, all, d.before))

    pub one_inside : at + pages_for (length words) ≤ length current_pages
    one_inside = omega (arith, whole)

    module _ (after : AllocationValue) (r : ReplacesOne view earlier current_pages words at after) where
      abbrev now : AllocationValue
      now = record { pages = take at current_pages; from = 0 }

      abbrev next : AllocationValue
      next = record { pages = take at current_pages ++ r.own; from = after.from }

      abbrev left_there : List ℕ
      left_there = drop (at + pages_for (length words)) current_pages

      first : SomeAllocated view earlier current_pages programs (words ∷ d.rest) now
      first = run programs d.done (d.old ∷ d.rest) (words ∷ d.rest) current_pages nothing now
          (subst (λ l. IsBehind earlier current_pages l current_pages) d.others_are (nothing_behind earlier current_pages)) (omega (arith, whole, d.before))
          (none_allocated_yet view earlier current_pages programs (d.done ++ words ∷ d.rest) nothing (sym d.programs_are) refl)
          (ap (λ (n : ℕ). record { pages = take n current_pages; from = 0 }) d.before)

      second : SomeAllocated view earlier current_pages programs d.rest next
      second = allocated_for_next view earlier current_pages programs (words ∷ d.rest) now first words d.rest refl next r.allocation
          (record { own = r.own; counted = r.counted; takes = r.takes; pages = refl })

      behind : IsBehind earlier current_pages d.rest left_there
      behind = subst (λ l. IsBehind l current_pages d.rest left_there) (append_assoc d.done (d.old ∷ []) d.rest ∙ sym d.others_are)
          (subst (IsBehind ((d.done ++ d.old ∷ []) ++ d.rest) current_pages d.rest)
          (ap (λ (n : ℕ). drop n current_pages) (pages-append d.done (d.old ∷ []) ∙ (let n = pages-one d.old in let same : pages_for (length words) ≡ pages_for (length d.old) = ap pages_for d.sized in omega (arith, n, same, d.before))))
          (behind_dropped (d.done ++ d.old ∷ []) d.rest current_pages))

      length-left : length left_there ≡ pages_in d.rest
      length-left = omega (arith, length-drop (at + pages_for (length words)) current_pages, whole)

      -- all but one take theirs
      pub others_shared : SomeAllocated view earlier current_pages programs [] after
      others_shared = run programs d.rest [] [] left_there next after
          (subst (λ l. IsBehind earlier current_pages l left_there) (sym (append-nil d.rest)) behind) (omega (arith, length-left))
          (subst (λ l. SomeAllocated view earlier current_pages programs l next) (sym (append-nil d.rest)) second)
          (ap (λ l. record { pages = l; from = after.from }) (r.pages ∙ ap (λ l. (take at current_pages ++ r.own) ++ l) (sym (take_whole (pages_in d.rest) left_there length-left))))

      long : length (take at current_pages) ≡ at
      long = length-take-le at current_pages (omega (arith, whole))

      -- none is free before the one
      pub none_before_one : IsBehindNoneFree view programs after.pages words at
      none_before_one = record {
        done = d.done;
        rest = d.rest;
        programs_are = d.programs_are;
        counted = d.before;
        inside = omega (arith, ap length r.pages, length-append (take at current_pages ++ r.own) left_there, length-append (take at current_pages) r.own, long);
        none = subst (NoneFree view)
            (sym (ap (take at) (r.pages ∙ append_assoc (take at current_pages) r.own left_there) ∙ (take-append-le at (take at current_pages) (r.own ++ left_there) (omega (arith, long)) ∙ take_whole at (take at current_pages) long)))
            (front_held view current_pages held at);
      }
