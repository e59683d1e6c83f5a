-- One part at most holds a place.
use Rattle.std.proofs.Common.{◌≡◌, ◌+◌, ◌∙◌, ◌<◌, List, Some, arith, get_or, inl, inr, length, slice_get, subst, sym, ℕ}
use Rattle.std.proofs.lemmas.Bool.{cases_eq, cases_lt}
use Rattle.std.proofs.lemmas.Option.{get_or_from_slice_get, slice_get-get_or, slice_get_within}
use Rattle.config_image.specs.PageTable.{start_of}
use Rattle.config_image.specs.declared.pages.search.FoundPart.{FoundPart}
use Rattle.config_image.specs.Search.{HoldsPlace, OnePartHolds, StartsRise}

rising_at : (entries : List ℕ) → StartsRise entries → (i j entry later : ℕ) → i < j → slice_get entries i ≡ Some entry → slice_get entries j ≡ Some later → start_of entry < start_of later
rising_at entries rising i j entry later before at_i at_j =
    let less = rising i j 0 before (slice_get_within entries j later at_j) in
    let first = get_or_from_slice_get entries i entry 0 at_i in
    let second = get_or_from_slice_get entries j later 0 at_j in
    rw (first, second) at less

-- a part that holds a place is not before another that does
not_before : (entries : List ℕ) (end place : ℕ) (part other : FoundPart) → StartsRise entries → HoldsPlace entries end place part → HoldsPlace entries end place other → part.index < other.index → ⊥
not_before entries end place part other rising holds also before =
    let within = slice_get_within entries other.index other.entry.0 also.named in
    let behind = slice_get-get_or entries (part.index + 1) 0 (omega arith) in
    let is = holds.next (get_or entries (part.index + 1) 0) behind in
    let to = holds.to in
    let from = also.from in
    elim (cases_eq (part.index + 1) other.index) [
      | inl same ↦
          let at : slice_get entries (part.index + 1) ≡ Some other.entry.0 = subst (λ k. slice_get entries k ≡ Some other.entry.0) (sym same) also.named in
          let next = holds.next other.entry.0 at in
          omega arith
      | inr apart ↦
          let less = rising_at entries rising (part.index + 1) other.index (get_or entries (part.index + 1) 0) other.entry.0 (omega arith) behind also.named in
          omega arith
    ]

same_part : (part other : FoundPart) → part.index ≡ other.index → part.entry.0 ≡ other.entry.0 → part.next.0 ≡ other.next.0 → part ≡ other
same_part part other index entry next = λ i. record { index = index i; entry = record { 0 = entry i }; next = record { 0 = next i } }

-- what is behind a part is told by its index
same_next : (entries : List ℕ) (end place : ℕ) (part other : FoundPart) → HoldsPlace entries end place part → HoldsPlace entries end place other → part.index ≡ other.index → part.next.0 ≡ other.next.0
same_next entries end place part other holds also same =
    let within = slice_get_within entries part.index part.entry.0 holds.named in
    elim (cases_lt (part.index + 1) (length entries)) [
      | inl more ↦
          let behind = slice_get-get_or entries (part.index + 1) 0 more in
          let at : slice_get entries (other.index + 1) ≡ Some (get_or entries (part.index + 1) 0) = subst (λ k. slice_get entries (k + 1) ≡ Some (get_or entries (part.index + 1) 0)) same behind in
          holds.next _ behind ∙ sym (also.next _ at)
      | inr none ↦ holds.last (omega arith) ∙ sym (also.last (omega arith))
    ]

pub one_part : OnePartHolds
one_part entries end place part other rising holds also =
    elim (cases_eq part.index other.index) [
      | inl same ↦
          let at : slice_get entries other.index ≡ Some part.entry.0 = subst (λ k. slice_get entries k ≡ Some part.entry.0) same holds.named in
          let named = also.named in
          let entry : part.entry.0 ≡ other.entry.0 = cc in
          same_part part other same entry (same_next entries end place part other holds also same)
      | inr apart ↦ elim (cases_lt part.index other.index) [
        | inl before ↦ absurd (not_before entries end place part other rising holds also before)
        | inr behind ↦ absurd (not_before entries end place other part rising also holds (omega arith))
      ]
    ]
