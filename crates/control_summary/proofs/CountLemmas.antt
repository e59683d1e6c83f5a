-- Rows of kinds, where one kind more is told.
use Rattle.std.proofs.Common.{◌≡◌, ◌≢◌, ◌∙◌, ◌++◌, ◌∷◌, ◌<◌, ◌≤◌, ◌+◌, ◌-◌, ◌^◌, List, [], ap, arith, drop, false, get_or, inl, inr, length, min, refl, set, subst, suc, sym, take, true, zero, ℕ}
use Rattle.std.proofs.lemmas.Bool.{cases_eq, cases_lt, cases_order, false_from_ne_true}
use Rattle.std.proofs.lemmas.Cmp.{nat_list_cmp_total, tied_itself}
use Rattle.std.proofs.lemmas.List.{get_or-drop, get_or-set_other, get_or-set_same, get_or-take, get_or_default, length-drop, length-set, length-take-le}
use Rattle.std.proofs.lemmas.List.Edits.{get_or-insert_above, get_or-insert_at, get_or-insert_below, length-insert}
use Rattle.std.proofs.lemmas.List.Elements.{All-append, All-cons, All-drop, All-head, All-push, All-tail, All-take, Contains-append_left, Contains-push}
use Rattle.std.proofs.lemmas.List.Kept.{AllPairs-cons}
use Rattle.std.proofs.lemmas.List.Sums.{sum_by-append, sum_by-cons}
use Rattle.std.proofs.lemmas.Map.Lookups.{exact_bytes}
use Rattle.std.proofs.lemmas.Slice.Eq.{bytes_eq-Decides}
use Rattle.std.specs.Cmp.Lexicographic.{slice_cmp}
use Rattle.std.specs.List.{All, AllPairs, Any, count_by, insert}
use Rattle.std.specs.Bool.{if◌then◌else◌}
use Rattle.std.specs.Ordering.{nat_cmp, ordering_reverse}
use Rattle.std.specs.Str.{bytes_eq}
use Rattle.std.specs.declared.cmp.Ordering.{Ordering}
use Rattle.std.specs.declared.cmp.Ordering.TheVariants.{Equal, Greater, Less}
use Rattle.control_summary.specs.Summary.{AreRows, IsBefore, IsRow, RowValue}
use Rattle.control_summary.specs.body.Counted.{AreAbove, AreBelow, IsPlaceOf}

-- ---- the order of bytes

pub apart : (one other : List ℕ) → slice_cmp nat_cmp one other ≡ Less → one ≢ other
apart one other less same =
    let even : ◌≡◌ {A = Ordering} Less Equal = sym (subst (λ (b : List ℕ). slice_cmp nat_cmp one b ≡ Less) (sym same) less) ∙ tied_itself nat_list_cmp_total one in cc

pub turned : (one other : List ℕ) → slice_cmp nat_cmp one other ≡ Greater → slice_cmp nat_cmp other one ≡ Less
turned one other greater = nat_list_cmp_total.antisymm other one ∙ ap ordering_reverse greater

-- ---- how often a kind is told

module _ (kind other : List ℕ) (kinds : List (List ℕ)) where
  told_again : kind ≡ other → count_by (bytes_eq kind) (kinds ++ other ∷ []) ≡ count_by (bytes_eq kind) kinds + 1
  told_again same =
      let is : bytes_eq kind other ≡ true = (bytes_eq-Decides kind other).1 same in
      sum_by-append (λ (x : List ℕ). if bytes_eq kind x then 1 else 0) kinds (other ∷ []) ∙ simp is refl

  told_another : kind ≢ other → count_by (bytes_eq kind) (kinds ++ other ∷ []) ≡ count_by (bytes_eq kind) kinds
  told_another differs =
      let is : bytes_eq kind other ≡ false = false_from_ne_true (bytes_eq kind other) (λ t. differs ((bytes_eq-Decides kind other).0 t)) in
      sum_by-append (λ (x : List ℕ). if bytes_eq kind x then 1 else 0) kinds (other ∷ []) ∙ simp is (omega arith)

never_told : (kind : List ℕ) (kinds : List (List ℕ)) → All (λ other. kind ≢ other) kinds → count_by (bytes_eq kind) kinds ≡ 0
never_told kind [] none = refl
never_told kind (other ∷ rest) none =
    let is : bytes_eq kind other ≡ false = false_from_ne_true (bytes_eq kind other) (λ t. All-head (λ (o : List ℕ). kind ≢ o) other rest none ((bytes_eq-Decides kind other).0 t)) in
    let behind = never_told kind rest (All-tail (λ (o : List ℕ). kind ≢ o) other rest none) in
    sum_by-cons (λ (x : List ℕ). if bytes_eq kind x then 1 else 0) other rest ∙ simp is (omega (arith, behind))

-- ---- one row

module _ (kinds : List (List ℕ)) (kind : List ℕ) where
  row_kept : (row : RowValue) → IsRow kinds row → row.kind ≢ kind → IsRow (kinds ++ kind ∷ []) row
  row_kept row is differs = record {
    told = Contains-append_left kinds (kind ∷ []) row.kind is.told;
    counted = is.counted ∙ ap (λ (n : ℕ). min n (2 ^ 64 - 1)) (sym (told_another row.kind kind kinds differs));
  }

  row_more : (row : RowValue) → IsRow kinds row → row.kind ≡ kind → IsRow (kinds ++ kind ∷ []) (record row { count = min (row.count + 1) (2 ^ 64 - 1) })
  row_more row is same = record {
    told = Contains-append_left kinds (kind ∷ []) row.kind is.told;
    counted = let count = is.counted in let more = told_again row.kind kind kinds same in omega (arith, count, more);
  }

  row_first : All (λ other. kind ≢ other) kinds → IsRow (kinds ++ kind ∷ []) (record { kind = kind; count = 1 })
  row_first none = record {
    told = Contains-push kinds kind;
    counted = let before = never_told kind kinds none in let more = told_again kind kind kinds refl in omega (arith, before, more);
  }

-- ---- a fact of some row

any_at : (P : RowValue → Type 0) (rows : List RowValue) (k : ℕ) (none : RowValue) → k < length rows → P (get_or rows k none) → Any P rows
any_at P rows k none inside holds = (k, get_or rows k none, inside, get_or_default rows k (get_or rows k none) none inside, holds)

-- the place of the row, and the fact of the row there
any_is : (P : RowValue → Type 0) (rows : List RowValue) (some : Any P rows) (none : RowValue) → P (get_or rows some.0 none)
any_is P rows some none = subst P (sym (get_or_default rows some.0 none some.1 some.2 ∙ some.3)) some.4

-- ---- the kind has a row

module _ (kinds : List (List ℕ)) (rows : List RowValue) (are : AreRows kinds rows) (place : ℕ) (row : RowValue) (inside : place < length rows) (is : row ≡ get_or rows place row) where
  abbrev more : RowValue
  more = record row { count = min (row.count + 1) (2 ^ 64 - 1) }

  abbrev rows_more : List RowValue
  rows_more = set rows place more

  row_at : (none : RowValue) → get_or rows place none ≡ row
  row_at none = get_or_default rows place none row inside ∙ sym is

  here : (none : RowValue) → get_or rows_more place none ≡ more
  here none = get_or-set_same rows place more none inside

  elsewhere : (k : ℕ) (none : RowValue) → k ≢ place → get_or rows_more k none ≡ get_or rows k none
  elsewhere k none other = get_or-set_other rows place k more none other

  same_length : length rows_more ≡ length rows
  same_length = length-set rows place more

  same_kind : (k : ℕ) (none : RowValue) → (get_or rows_more k none).kind ≡ (get_or rows k none).kind
  same_kind k none = elim (cases_eq k place) [
    | inl at ↦ subst (λ (j : ℕ). (get_or rows_more j none).kind ≡ (get_or rows j none).kind) (sym at)
        (ap (λ (r : RowValue). r.kind) (here none) ∙ ap (λ (r : RowValue). r.kind) (sym (row_at none)))
    | inr other ↦ ap (λ (r : RowValue). r.kind) (elsewhere k none other)
  ]

  others_differ : (k : ℕ) (none : RowValue) → k < length rows → k ≢ place → (get_or rows k none).kind ≢ row.kind
  others_differ k none within other = elim (cases_order k place) [
    | inl at ↦ absurd (other at)
    | inr apart_places ↦ elim apart_places [
      | inl before ↦ subst (λ (r : RowValue). (get_or rows k none).kind ≢ r.kind) (row_at none) (apart (get_or rows k none).kind (get_or rows place none).kind (are.rising k place none before inside))
      | inr behind ↦ subst (λ (r : RowValue). (get_or rows k none).kind ≢ r.kind) (row_at none)
          (λ same. apart (get_or rows place none).kind (get_or rows k none).kind (are.rising place k none behind within) (sym same))
    ]
  ]

  still_some : (kind : List ℕ) → Any (λ (r : RowValue). r.kind ≡ kind) rows → Any (λ (r : RowValue). r.kind ≡ kind) rows_more
  still_some kind some =
      any_at (λ (r : RowValue). r.kind ≡ kind) rows_more some.0 row (subst (λ (n : ℕ). some.0 < n) (sym same_length) some.2)
      (same_kind some.0 row ∙ any_is (λ (r : RowValue). r.kind ≡ kind) rows some row)

  pub one_more : (kind : List ℕ) → row.kind ≡ kind → AreRows (kinds ++ kind ∷ []) rows_more
  one_more kind same = record {
    rising = λ j k none before within.
        subst (λ (b : List ℕ). slice_cmp nat_cmp b (get_or rows_more k none).kind ≡ Less) (sym (same_kind j none))
        (subst (λ (b : List ℕ). slice_cmp nat_cmp (get_or rows j none).kind b ≡ Less) (sym (same_kind k none))
        (are.rising j k none before (subst (λ (n : ℕ). k < n) same_length within)));
    each = λ k none within. let inner : k < length rows = subst (λ (n : ℕ). k < n) same_length within in elim (cases_eq k place) [
      | inl at ↦ subst (λ (j : ℕ). IsRow (kinds ++ kind ∷ []) (get_or rows_more j none)) (sym at)
          (subst (IsRow (kinds ++ kind ∷ [])) (sym (here none))
          (row_more kinds kind row (subst (IsRow kinds) (row_at none) (are.each place none inside)) same))
      | inr other ↦ subst (IsRow (kinds ++ kind ∷ [])) (sym (elsewhere k none other))
          (row_kept kinds kind (get_or rows k none) (are.each k none inner) (λ equal. others_differ k none inner other (equal ∙ sym same)))
    ];
    complete = All-push (λ (v : List ℕ). Any (λ (r : RowValue). r.kind ≡ v) rows_more) kinds kind
        (λ k none within. still_some (get_or kinds k none) (are.complete k none within))
        (any_at (λ (r : RowValue). r.kind ≡ kind) rows_more place row (subst (λ (n : ℕ). place < n) (sym same_length) inside)
        (same_kind place row ∙ (ap (λ (r : RowValue). r.kind) (row_at row) ∙ same)));
  }

-- ---- the kind has none

pairs_tail : (R : RowValue → RowValue → Type 0) (row : RowValue) (rows : List RowValue) → AllPairs R (row ∷ rows) → AllPairs R rows
pairs_tail R row rows pairs j k none before within = pairs (suc j) (suc k) none (omega arith) (omega arith)

pairs_head : (R : RowValue → RowValue → Type 0) (row : RowValue) (rows : List RowValue) → AllPairs R (row ∷ rows) → All (R row) rows
pairs_head R row rows pairs k none within = pairs 0 (suc k) none (omega arith) (omega arith)

pairs_insert : (R : RowValue → RowValue → Type 0) (rows : List RowValue) (place : ℕ) (row : RowValue) → AllPairs R rows → All (λ r. R r row) (take place rows) → All (R row) (drop place rows)
    → AllPairs R (take place rows ++ row ∷ drop place rows)
pairs_insert R [] zero row pairs below above = AllPairs-cons R row [] above pairs
pairs_insert R [] (suc place) row pairs below above = AllPairs-cons R row [] above pairs
pairs_insert R (first ∷ rows) zero row pairs below above = AllPairs-cons R row (first ∷ rows) above pairs
pairs_insert R (first ∷ rows) (suc place) row pairs below above =
    let behind = pairs_head R first rows pairs in
    AllPairs-cons R first (take place rows ++ row ∷ drop place rows)
    (All-append (R first) (take place rows) (row ∷ drop place rows) (All-take (R first) place rows behind)
    (All-cons (R first) row (drop place rows) (All-head (λ (r : RowValue). R r row) first (take place rows) below) (All-drop (R first) place rows behind)))
    (pairs_insert R rows place row (pairs_tail R first rows pairs) (All-tail (λ (r : RowValue). R r row) first (take place rows) below) above)

module _ (kinds : List (List ℕ)) (rows : List RowValue) (are : AreRows kinds rows) (kind : List ℕ) (place : ℕ) (within : place ≤ length rows)
    (below : AreBelow rows place kind) (above : AreAbove rows place kind) where
  abbrev fresh : RowValue
  fresh = record { kind = kind; count = 1 }

  none_has : (k : ℕ) (none : RowValue) → k < length rows → (get_or rows k none).kind ≢ kind
  none_has k none inside = elim (cases_lt k place) [
    | inl before ↦ apart (get_or rows k none).kind kind (below k none (omega arith) before)
    | inr behind ↦ λ same. apart kind (get_or rows k none).kind (turned (get_or rows k none).kind kind (above k none behind inside)) (sym same)
  ]

  never : All (λ other. kind ≢ other) kinds
  never k none inside same =
      let some = are.complete k none inside in
      none_has some.0 some.1 some.2 (any_is (λ (r : RowValue). r.kind ≡ get_or kinds k none) rows some some.1 ∙ sym same)

  kept : All (IsRow (kinds ++ kind ∷ [])) rows
  kept k none inside = row_kept kinds kind (get_or rows k none) (are.each k none inside) (none_has k none inside)

  before_it : All (λ r. IsBefore r fresh) (take place rows)
  before_it k none inside =
      let at : k < place = subst (λ (n : ℕ). k < n) (length-take-le place rows within) inside in
      subst (λ (r : RowValue). slice_cmp nat_cmp r.kind kind ≡ Less) (sym (get_or-take place rows k none at)) (below k none (omega arith) at)

  behind_it : All (IsBefore fresh) (drop place rows)
  behind_it k none inside =
      let at : k < length rows - place = subst (λ (n : ℕ). k < n) (length-drop place rows) inside in
      subst (λ (r : RowValue). slice_cmp nat_cmp kind r.kind ≡ Less) (sym (get_or-drop place rows k none))
      (turned (get_or rows (place + k) none).kind kind (above (place + k) none (omega arith) (omega arith)))

  longer : length (insert rows place fresh) ≡ length rows + 1
  longer = length-insert rows place fresh within

  still_there : (k : ℕ) (none : RowValue) (P : RowValue → Type 0) → k < length rows → P (get_or rows k none) → Any P (insert rows place fresh)
  still_there k none P inside holds = elim (cases_lt k place) [
    | inl before ↦ any_at P (insert rows place fresh) k none (subst (λ (n : ℕ). k < n) (sym longer) (omega arith))
        (subst P (sym (get_or-insert_below rows place fresh none k before within)) holds)
    | inr behind ↦ any_at P (insert rows place fresh) (k + 1) none (subst (λ (n : ℕ). k + 1 < n) (sym longer) (omega arith))
        (subst P (sym (get_or-insert_above rows place fresh none k behind within)) holds)
  ]

  pub first_told : AreRows (kinds ++ kind ∷ []) (insert rows place (record { kind = kind; count = 1 }))
  first_told = record {
    rising = pairs_insert IsBefore rows place fresh are.rising before_it behind_it;
    each = All-append (IsRow (kinds ++ kind ∷ [])) (take place rows) (fresh ∷ drop place rows) (All-take (IsRow (kinds ++ kind ∷ [])) place rows kept)
        (All-cons (IsRow (kinds ++ kind ∷ [])) fresh (drop place rows) (row_first kinds kind never) (All-drop (IsRow (kinds ++ kind ∷ [])) place rows kept));
    complete = All-push (λ (v : List ℕ). Any (λ (r : RowValue). r.kind ≡ v) (insert rows place fresh)) kinds kind
        (λ k none inside. let some = are.complete k none inside in
        still_there some.0 some.1 (λ (r : RowValue). r.kind ≡ get_or kinds k none) some.2 (any_is (λ (r : RowValue). r.kind ≡ get_or kinds k none) rows some some.1))
        (any_at (λ (r : RowValue). r.kind ≡ kind) (insert rows place fresh) place fresh (subst (λ (n : ℕ). place < n) (sym longer) (omega arith))
        (ap (λ (r : RowValue). r.kind) (get_or-insert_at rows place fresh fresh within)));
  }

-- ---- where a kind's row is looked for

module _ (rows : List RowValue) (rising : AllPairs IsBefore rows) (middle : ℕ) (row : RowValue) (inside : middle < length rows) (is : row ≡ get_or rows middle row) (kind : List ℕ) where
  at_middle : (none : RowValue) → get_or rows middle none ≡ row
  at_middle none = get_or_default rows middle none row inside ∙ sym is

  pub below_more : slice_cmp nat_cmp row.kind kind ≡ Less → AreBelow rows (middle + 1) kind
  below_more less k none low high = elim (cases_lt k middle) [
    | inl before ↦
        nat_list_cmp_total.trans (get_or rows k none).kind row.kind kind
        (subst (λ (r : RowValue). slice_cmp nat_cmp (get_or rows k none).kind r.kind ≡ Less) (at_middle none) (rising k middle none before inside)) less
    | inr behind ↦
        let at : k ≡ middle = omega arith in
        subst (λ (j : ℕ). slice_cmp nat_cmp (get_or rows j none).kind kind ≡ Less) (sym at) (subst (λ (r : RowValue). slice_cmp nat_cmp r.kind kind ≡ Less) (sym (at_middle none)) less)
  ]

  pub above_more : slice_cmp nat_cmp row.kind kind ≡ Greater → AreAbove rows middle kind
  above_more greater k none low high = elim (cases_lt middle k) [
    | inl behind ↦
        nat_list_cmp_total.antisymm (get_or rows k none).kind kind
        ∙ ap ordering_reverse (nat_list_cmp_total.trans kind row.kind (get_or rows k none).kind (turned row.kind kind greater)
        (subst (λ (r : RowValue). slice_cmp nat_cmp r.kind (get_or rows k none).kind ≡ Less) (at_middle none) (rising middle k none behind high)))
    | inr before ↦
        let at : k ≡ middle = omega arith in
        subst (λ (j : ℕ). slice_cmp nat_cmp (get_or rows j none).kind kind ≡ Greater) (sym at)
        (subst (λ (r : RowValue). slice_cmp nat_cmp r.kind kind ≡ Greater) (sym (at_middle none)) greater)
  ]

pub is_place : (rows : List RowValue) (place : ℕ) (row : RowValue) → place < length rows → row ≡ get_or rows place row → (kind : List ℕ)
    → slice_cmp nat_cmp row.kind kind ≡ Equal → IsPlaceOf rows kind place
is_place rows place row inside is kind equal = (
  inside,
  λ none. ap (λ (r : RowValue). r.kind) (get_or_default rows place none row inside ∙ sym is) ∙ exact_bytes row.kind kind equal,
)

-- ---- what the place tells

pub counted_again : (rows shown : List RowValue) (kind : List ℕ) (place : ℕ) (row now : RowValue) → shown ≡ rows → IsPlaceOf shown kind place → row ≡ get_or rows place row
    → now ≡ record row { count = min (row.count + 1) (2 ^ 64 - 1) } → (kinds : List (List ℕ)) → AreRows kinds rows → AreRows (kinds ++ kind ∷ []) (set rows place now)
counted_again rows shown kind place row now same found is becomes kinds are =
    let here : IsPlaceOf rows kind place = subst (λ (rs : List RowValue). IsPlaceOf rs kind place) same found in
    subst (λ (r : RowValue). AreRows (kinds ++ kind ∷ []) (set rows place r)) (sym becomes)
    (one_more kinds rows are place row here.0 is kind (ap (λ (r : RowValue). r.kind) is ∙ here.1 row))

pub counted_first : (rows shown after : List RowValue) (kind : List ℕ) (place : ℕ) (row : RowValue) → shown ≡ rows → place ≤ length shown
    → (AllPairs IsBefore shown → AreBelow shown place kind) → (AllPairs IsBefore shown → AreAbove shown place kind)
    → row ≡ record { kind = kind; count = 1 } → after ≡ insert rows place row
    → (kinds : List (List ℕ)) → AreRows kinds rows → AreRows (kinds ++ kind ∷ []) after
counted_first rows shown after kind place row same within below above is becomes kinds are =
    let rising : AllPairs IsBefore shown = subst (AllPairs IsBefore) (sym same) are.rising in
    subst (λ (rs : List RowValue). AreRows (kinds ++ kind ∷ []) rs) (sym (becomes ∙ ap (λ (r : RowValue). insert rows place r) is))
    (first_told kinds rows are kind place (subst (λ (rs : List RowValue). place ≤ length rs) same within)
    (subst (λ (rs : List RowValue). AreBelow rs place kind) same (below rising)) (subst (λ (rs : List RowValue). AreAbove rs place kind) same (above rising)))
