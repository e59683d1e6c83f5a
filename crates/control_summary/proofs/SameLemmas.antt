-- Two lists of rows in rising order that have each other's rows.
use Rattle.std.proofs.Common.{◌≡◌, ◌∙◌, ◌∷◌, ◌<◌, ◌⊎◌, List, [], ap, arith, get_or, inl, inr, length, refl, subst, suc, sym, zero, ℕ}
use Rattle.std.proofs.lemmas.Cmp.{nat_list_cmp_total}
use Rattle.std.proofs.lemmas.List.{get_or_default}
use Rattle.std.specs.List.{AllPairs, flat_map}
use Rattle.control_summary.specs.Summary.{AreRows, HasOneSummary, IsBefore, IsRow, RowValue, row_text, times_among, kinds_in}
use Rattle.control_summary.proofs.CountLemmas.{apart}

-- the row is in the list
record IsIn (rows : List RowValue) (row : RowValue) : Type 0 where
  place : ℕ
  inside : place < length rows
  is : (none : RowValue) → get_or rows place none ≡ row

not_before_itself : (row : RowValue) → IsBefore row row → ⊥
not_before_itself row less = apart row.kind row.kind less refl

-- the first row of one list is that of the other, or comes behind it
first_or_behind : (first row : RowValue) (rows : List RowValue) → AllPairs IsBefore (first ∷ rows) → IsIn (first ∷ rows) row → (first ≡ row) ⊎ IsBefore first row
first_or_behind first row rows rising found = go found.place found.inside found.is
  where
    go : (place : ℕ) → place < length (first ∷ rows) → ((none : RowValue) → get_or (first ∷ rows) place none ≡ row) → (first ≡ row) ⊎ IsBefore first row
    go zero inside is = inl (is first)
    go (suc place) inside is = inr (subst (IsBefore first) (is first) (rising 0 (suc place) first (omega arith) inside))

same_first : (one other : RowValue) (ones others : List RowValue) → AllPairs IsBefore (one ∷ ones) → AllPairs IsBefore (other ∷ others) → IsIn (other ∷ others) one → IsIn (one ∷ ones) other → one ≡ other
same_first one other ones others rising rising' there here = elim (first_or_behind one other ones rising here) [
  | inl same ↦ same
  | inr less ↦ elim (first_or_behind other one others rising' there) [
    | inl same ↦ sym same
    | inr less' ↦ absurd (not_before_itself one (nat_list_cmp_total.trans one.kind other.kind one.kind less less'))
  ]
]

-- a row behind the first one is in the rest of the list
in_rest : (first row : RowValue) (rows : List RowValue) → IsBefore first row → IsIn (first ∷ rows) row → IsIn rows row
in_rest first row rows less found = go found.place found.inside found.is
  where
    go : (place : ℕ) → place < length (first ∷ rows) → ((none : RowValue) → get_or (first ∷ rows) place none ≡ row) → IsIn rows row
    go zero inside is = absurd (not_before_itself row (subst (λ (r : RowValue). IsBefore r row) (is first) less))
    go (suc place) inside is = record { place = place; inside = omega arith; is = is }

rest_rises : (first : RowValue) (rows : List RowValue) → AllPairs IsBefore (first ∷ rows) → AllPairs IsBefore rows
rest_rises first rows rising j k none before within = rising (suc j) (suc k) none (omega arith) (omega arith)

abbrev AreIn : List RowValue → List RowValue → Type 0
AreIn ones others = (k : ℕ) (none : RowValue) → k < length ones → IsIn others (get_or ones k none)

rest_in : (one other : RowValue) (ones others : List RowValue) → one ≡ other → AllPairs IsBefore (one ∷ ones) → AreIn (one ∷ ones) (other ∷ others) → AreIn ones others
rest_in one other ones others same rising are k none inside =
    in_rest other (get_or ones k none) others (subst (λ (r : RowValue). IsBefore r (get_or ones k none)) same (rising 0 (suc k) none (omega arith) (omega arith)))
    (are (suc k) none (omega arith))

same_rows : (ones others : List RowValue) → AllPairs IsBefore ones → AllPairs IsBefore others → AreIn ones others → AreIn others ones → ones ≡ others
same_rows [] [] rising rising' here there = refl
same_rows [] (other ∷ others) rising rising' here there = let found = there 0 other (omega arith) in absurd (let inside = found.inside in omega arith)
same_rows (one ∷ ones) [] rising rising' here there = let found = here 0 one (omega arith) in absurd (let inside = found.inside in omega arith)
same_rows (one ∷ ones) (other ∷ others) rising rising' here there =
    let same = same_first one other ones others rising rising' (here 0 one (omega arith)) (there 0 other (omega arith)) in
    let rest = same_rows ones others (rest_rises one ones rising) (rest_rises other others rising') (rest_in one other ones others same rising here) (rest_in other one others ones (sym same) rising' there) in
    ap (λ (r : RowValue). r ∷ ones) same ∙ ap (λ (rs : List RowValue). other ∷ rs) rest

-- rows of the same kinds
module _ (kinds : List (List ℕ)) (ones others : List RowValue) (are : AreRows kinds ones) (are' : AreRows kinds others) where
  one_row : (row row' : RowValue) → IsRow kinds row → IsRow kinds row' → row'.kind ≡ row.kind → row' ≡ row
  one_row row row' is is' same =
      let count : row'.count ≡ row.count = is'.counted ∙ (ap (times_among kinds) same ∙ sym is.counted) in
      let P : List ℕ → RowValue = λ (v : List ℕ). record { kind = v; count = row'.count } in
      let Q : ℕ → RowValue = λ (n : ℕ). record { kind = row.kind; count = n } in
      ap P same ∙ ap Q count

  are_in : AreIn ones others
  are_in k none inside =
      let row = are.each k none inside in
      let place = row.told.0 in
      let there = are'.complete place (get_or ones k none).kind row.told.1 in
      record {
        place = there.0;
        inside = there.2;
        is = λ some.
            let at : get_or others there.0 some ≡ there.1 = get_or_default others there.0 some there.1 there.2 ∙ there.3 in
            at ∙ one_row (get_or ones k none) there.1 row (subst (IsRow kinds) at (are'.each there.0 some there.2)) (there.4 ∙ row.told.2);
      }

pub one_summary : HasOneSummary
one_summary replies one other is is' =
    let rows = same_rows is.rows is'.rows is.are_rows.rising is'.are_rows.rising (are_in (kinds_in replies) is.rows is'.rows is.are_rows is'.are_rows)
    (are_in (kinds_in replies) is'.rows is.rows is'.are_rows is.are_rows) in
    is.is ∙ (ap (flat_map row_text) rows ∙ sym is'.is)
