-- Pages that are allocated one after the other: free ones, or those of the current version.
use Rattle.std.proofs.Common.{◌≡◌, ◌∙◌, ℕ, ◌+◌, ◌-◌, ◌<◌, ◌≤◌, List, Some, [], ◌∷◌, ◌++◌, ap, append_assoc, arith, inl, length, length-append, refl, slice_get, subst, sym, ⊎_elim}
use Rattle.std.specs.List.{flat_map}
use Rattle.std.proofs.lemmas.Bool.{cases_lt}
use Rattle.std.proofs.lemmas.List.{append-nil}
use Rattle.std.proofs.lemmas.List.Concat.{flat_map-append}
use mathlib.Core.Logic.{dite}
use native.Mathlib.Decide.{ℕ_discrete}
use Rattle.config_image.specs.declared.TheConstants.{PAGE_LIMIT}
use Rattle.config_image.specs.Image.{Group}
use Rattle.config_image.specs.Pooled.{pages_for, parts_of}
use Rattle.versions.specs.declared.view.OperatorView.{OperatorView}
use Rattle.versions.specs.Free.{IsFreePage, number_after}
use Rattle.versions.specs.Table.{the_shape}
use Rattle.versions.proofs.MirrorLemmas.{none_some}
use Rattle.versions.proofs.OpenedLemmas.{slice_get-front_or_back}
use Rattle.versions.proofs.WorldLemmas.{slice_get-end, slice_get-front}
use Rattle.read_section.specs.Operator.{HasFreeRow, IsLeastFreePage, NeverShort, StandsIn}
use Rattle.retire.specs.Publish.{HasPages, TakesFor, TakesPages, pages_of_each}
use Rattle.retire.specs.body.Allocation.{IsAllocation, IsCounted, NoneFree, AllocationValue, AllocatesFree, TakesOneMore}
use Rattle.retire.proofs.PageLemmas.{snoc_at}
use Rattle.retire.proofs.SharingLemmas.{counted_more, each_more, length-parts, own_among, own_counted}

module _ (view : OperatorView (List Group)) where
  pub none_allocated : IsAllocation view (record { pages = []; from = 0 })
  none_allocated = record {
    rise = λ index later page other up at there. absurd (none_some page at);
    all = λ q free low. absurd (omega arith);
    below = λ index page at free. absurd (none_some page at);
  }

  module _ (allocation : AllocationValue) (h : IsAllocation view allocation) where
    -- one free page more
    pub one_allocated_more : (page : ℕ) → IsLeastFreePage view allocation.from page → IsAllocation view (record { pages = allocation.pages ++ page ∷ []; from = page + 1 })
    one_allocated_more page is = record {
      rise = λ index later q other up at there free last_free. ⊎_elim
          (λ last. ⊎_elim (λ first. h.rise index later q other up first.1 last.1 free last_free) (λ first. absurd (omega (arith, first.0, last.0))) (snoc_at allocation.pages page q index at))
          (λ last. ⊎_elim (λ first. omega (arith, h.below index q first.1 free, is.from_there, last.1)) (λ first. absurd (omega (arith, first.0, last.0))) (snoc_at allocation.pages page q index at))
          (snoc_at allocation.pages page other later there);
      all = λ q free low. dite (ℕ_discrete q page)
          (λ same. (length allocation.pages, slice_get-end allocation.pages page ∙ ap Some (sym same)))
          (λ other. ⊎_elim (λ (under : q < allocation.from). let t = h.all q free under in (t.0, slice_get-front allocation.pages (page ∷ []) t.0 q t.1)) (λ (up : allocation.from ≤ q). absurd (other (omega (arith, is.least q up free)))) (cases_lt q allocation.from));
      below = λ index q at free. ⊎_elim (λ t. omega (arith, h.below index q t.1 free, is.from_there)) (λ t. omega (arith, t.1)) (snoc_at allocation.pages page q index at);
    }

    -- pages that are not free
    pub shared_too : (own : List ℕ) → NoneFree view own → IsAllocation view (record { pages = allocation.pages ++ own; from = allocation.from })
    shared_too own none = record {
      rise = λ index later q other up at there free last_free. ⊎_elim
          (λ last. ⊎_elim (λ first. h.rise index later q other up first.1 last.1 free last_free) (λ first. absurd (none (index - length allocation.pages) q first.1 free)) (slice_get-front_or_back allocation.pages own index q at))
          (λ last. absurd (none (later - length allocation.pages) other last.1 last_free))
          (slice_get-front_or_back allocation.pages own later other there);
      all = λ q free low. let t = h.all q free low in (t.0, slice_get-front allocation.pages own t.0 q t.1);
      below = λ index q at free. ⊎_elim (λ first. h.below index q first.1 free) (λ last. absurd (none (index - length allocation.pages) q last.1 free)) (slice_get-front_or_back allocation.pages own index q at);
    }

    -- there is one more, where a row is free
    pub some_page_left : NeverShort view → HasFreeRow view → length allocation.pages < PAGE_LIMIT → ((page : ℕ) → allocation.from ≤ page → IsFreePage the_shape view page → ⊥) → ⊥
    some_page_left enough row few none =
        let t = enough row allocation.pages few in
        ⊎_elim (λ (under : t.0 < allocation.from). let there = h.all t.0 t.1 under in t.2 there.0 there.1) (λ (up : allocation.from ≤ t.0). none t.0 up t.1) (cases_lt t.0 allocation.from)

  pub one_free_more : (before now : AllocationValue) (n page from : ℕ) → AllocatesFree view before now n → IsFreePage the_shape view page → AllocatesFree view before (record { pages = now.pages ++ page ∷ []; from = from }) (n + 1)
  one_free_more before now n page from h free = record {
    own = h.own ++ page ∷ [];
    counted = omega (arith, length-append h.own (page ∷ []), h.counted);
    free = λ index q at. ⊎_elim (λ t. h.free index q t.1) (λ t. subst (λ (k : ℕ). IsFreePage the_shape view k) (sym t.1) free) (snoc_at h.own page q index at);
    pages = ap (λ l. l ++ page ∷ []) h.pages ∙ append_assoc before.pages h.own (page ∷ []);
  }

  pub length-free : (before now : AllocationValue) (n : ℕ) → AllocatesFree view before now n → length now.pages ≡ length before.pages + n
  length-free before now n h = omega (arith, ap length h.pages, length-append before.pages h.own, h.counted)

  -- ---- the pages of an equal program

  pub own_held : (programs : List (List ℕ)) (pages words own : List ℕ) → NoneFree view pages → HasPages programs pages words own → NoneFree view own
  own_held programs pages words own none has index page at = let t = own_among programs pages words own has index page at in none t.0 page t.1

  module _ (programs : List (List ℕ)) (pages words : List ℕ) (before after : AllocationValue) where
    pub equal_shared : (own : List ℕ) → IsCounted programs pages → HasPages programs pages words own → after ≡ record { pages = before.pages ++ own; from = before.from } → TakesOneMore view programs pages words before after
    equal_shared own counted has e = record { own = own; counted = own_counted programs pages words own counted has; takes = inl has; pages = ap (λ (v : AllocationValue). v.pages) e }

  -- ---- all programs, one after the other

  -- so many programs have their pages, and these programs are left
  pub record SomeAllocated (earlier : List (List ℕ)) (current_pages : List ℕ) (all rest : List (List ℕ)) (allocation : AllocationValue) : Type 0 where
    pub done : List (List ℕ)
    pub all_are : all ≡ done ++ rest
    pub counted : IsCounted done allocation.pages
    pub each : (index : ℕ) (words own : List ℕ) → slice_get done index ≡ Some words → slice_get (pages_of_each done allocation.pages) index ≡ Some own → TakesFor view earlier current_pages words own
    pub allocation_is : IsAllocation view allocation

  pub none_allocated_yet : (earlier : List (List ℕ)) (current_pages : List ℕ) (all rest : List (List ℕ)) (allocation : AllocationValue) → rest ≡ all → allocation ≡ record { pages = []; from = 0 } → SomeAllocated earlier current_pages all rest allocation
  none_allocated_yet earlier current_pages all rest allocation is none = subst (SomeAllocated earlier current_pages all rest) (sym none) (record {
    done = [];
    all_are = sym is;
    counted = refl;
    each = λ index words own at. absurd (none_some words at);
    allocation_is = none_allocated;
  })

  module _ (earlier : List (List ℕ)) (current_pages : List ℕ) (all rest : List (List ℕ)) (allocation : AllocationValue) (h : SomeAllocated earlier current_pages all rest allocation) where
    module _ (words : List ℕ) (others : List (List ℕ)) (next : rest ≡ words ∷ others) where
      -- there is room for the pages of the next program
      pub room_for_next : (most : ℕ) → length (flat_map parts_of all) ≤ most → length allocation.pages + pages_for (length words) ≤ most
      room_for_next most few = omega (arith, few, h.counted, ap length (ap (flat_map parts_of) h.all_are ∙ flat_map-append parts_of h.done rest), length-append (flat_map parts_of h.done) (flat_map parts_of rest), ap length (ap (flat_map parts_of) next), length-parts words others)

      pub allocated_for_next : (after : AllocationValue) → IsAllocation view after → TakesOneMore view earlier current_pages words allocation after → SomeAllocated earlier current_pages all others after
      allocated_for_next after are more = record {
        done = h.done ++ words ∷ [];
        all_are = h.all_are ∙ (ap (λ l. h.done ++ l) next ∙ sym (append_assoc h.done (words ∷ []) others));
        counted = subst (IsCounted (h.done ++ words ∷ [])) (sym more.pages) (counted_more h.done allocation.pages words more.own h.counted more.counted);
        each = subst (λ l. (index : ℕ) (w o : List ℕ) → slice_get (h.done ++ words ∷ []) index ≡ Some w → slice_get (pages_of_each (h.done ++ words ∷ []) l) index ≡ Some o → TakesFor view earlier current_pages w o)
            (sym more.pages) (each_more (TakesFor view earlier current_pages) h.done allocation.pages words more.own h.counted more.counted h.each more.takes);
        allocation_is = are;
      }

    pub all_allocated : rest ≡ [] → TakesPages view earlier current_pages all allocation.pages × IsCounted all allocation.pages
    all_allocated none = (
      record {
        each = subst (λ l. (index : ℕ) (w o : List ℕ) → slice_get l index ≡ Some w → slice_get (pages_of_each l allocation.pages) index ≡ Some o → TakesFor view earlier current_pages w o) done_is h.each;
        rise = h.allocation_is.rise;
        least = λ index page q at free other low. h.allocation_is.all q other (omega (arith, h.allocation_is.below index page at free));
      },
      subst (λ l. IsCounted l allocation.pages) done_is h.counted,
    )
      where
        done_is : h.done ≡ all
        done_is = sym (h.all_are ∙ (ap (λ l. h.done ++ l) none ∙ append-nil h.done))

  -- the pages of the current version are not free
  pub current_held : (config : List Group) (pages : List ℕ) → StandsIn view config pages → NoneFree view pages
  current_held config pages stands index page at free = let replaced = (free.1 (number_after view.log) (pages, stands.named, (index, at))).0 in omega arith
