-- Lines of a table one after the other, and the sum of their last columns.
use Rattle.std.proofs.Common.{◌≡◌, ◌≢◌, ◌∙◌, ◌+◌, ◌<◌, ◌≤◌, ◌^◌, ◌∷◌, ◌++◌, Bool, List, [], ap, arith, cond, decimal, drop, false, get_or, length, map, refl, subst, suc, sym, take, true, zero, ℕ}
use Rattle.std.specs.Prelude.{sum_by}
use Rattle.std.specs.Borrow.{Bor}
use Rattle.std.specs.List.{All, filter}
use Rattle.std.specs.Str.Parse.{digits_value}
use Rattle.std.proofs.lemmas.Fmt.{decimal_is_IsNumeral}
use Rattle.std.proofs.lemmas.List.Elements.{All-append, All-cons, All-head, All-nil, All-tail}
use Rattle.std.proofs.lemmas.List.Sums.{sum_by-append}
use Rattle.ipv4_fields.specs.declared.endpoint.Endpoint.{Endpoint}
use Rattle.counter_text.specs.Sockets.{AreCounts, IsCount, columns, drop_columns, is_at, last_column}

pub drops-append : (front : Endpoint) (xs ys : List (List ℕ)) → drop_columns front (xs ++ ys) ≡ drop_columns front xs ++ drop_columns front ys
drops-append front [] ys = refl
drops-append front (x ∷ xs) ys = by_test (is_at front (columns x)) (drops-append front xs ys)
  where
    by_test : (b : Bool) → drop_columns front (xs ++ ys) ≡ drop_columns front xs ++ drop_columns front ys →
        map last_column (cond b (columns x ∷ filter (is_at front) (map columns (xs ++ ys))) (filter (is_at front) (map columns (xs ++ ys))))
        ≡ map last_column (cond b (columns x ∷ filter (is_at front) (map columns xs)) (filter (is_at front) (map columns xs))) ++ drop_columns front ys
    by_test true rest = ap (λ left. last_column (columns x) ∷ left) rest
    by_test false rest = rest

-- ---- sums of counts

pub record AreSummed (found : List (List ℕ)) (n : ℕ) : Type 0 where
  pub counts : All IsCount found
  pub sum : n ≡ sum_by (digits_value 10) found
  pub fits : n < 2 ^ 64

pub no_sum : AreSummed [] 0
no_sum = record { counts = All-nil IsCount; sum = refl; fits = omega arith }

value_of_count : (column : List ℕ) (n : ℕ) → n < 2 ^ 64 → column ≡ decimal n → digits_value 10 column ≡ n
value_of_count column n small is = ap (digits_value 10) is ∙ (decimal_is_IsNumeral n small).1

pub one_more : (found : List (List ℕ)) (sum : ℕ) (column : List ℕ) (n total : ℕ) → AreSummed found sum → n < 2 ^ 64 → column ≡ decimal n → total ≡ sum + n → total < 2 ^ 64 →
    AreSummed (found ++ column ∷ []) total
one_more found sum column n total so_far small is with fits =
    let value = value_of_count column n small is in
    let more = sum_by-append (digits_value 10) found (column ∷ []) in
    let before = so_far.sum in
    record {
      counts = All-append IsCount found (column ∷ []) so_far.counts (All-cons IsCount column [] (n, small, is) (All-nil IsCount));
      sum = omega arith;
      fits = fits;
    }

module _ (all found rest : List (List ℕ)) (column : List ℕ) (whole : all ≡ found ++ column ∷ rest) where
  counted : (xs : List (List ℕ)) → All IsCount (xs ++ column ∷ rest) → IsCount column
  counted [] counts = All-head IsCount column rest counts
  counted (x ∷ xs) counts = counted xs (All-tail IsCount x (xs ++ column ∷ rest) counts)

  pub no_count : ((n : ℕ) → n < 2 ^ 64 → column ≢ decimal n) → (n : ℕ) → AreCounts all n → ⊥
  no_count none n it =
      let one = counted found (subst (All IsCount) whole it.counts) in
      none one.0 one.1 one.2

  pub too_great : (sum number : ℕ) → AreSummed found sum → number < 2 ^ 64 → column ≡ decimal number → 2 ^ 64 ≤ sum + number → (n : ℕ) → AreCounts all n → ⊥
  too_great sum number so_far small is great n it =
      let value = value_of_count column number small is in
      let before = so_far.sum in
      let fits = it.fits in
      let last = sum_by-append (digits_value 10) (column ∷ []) rest in
      let total = it.sum ∙ ap (sum_by (digits_value 10)) whole ∙ sum_by-append (digits_value 10) found (column ∷ rest) in
      absurd (omega arith)

-- ---- the texts of a list of slices

abbrev pub text_at : List (Bor (List ℕ)) → ℕ → List ℕ
text_at items i = (get_or items i (record { ref_ptr = (0, 0); now = [] })).now

abbrev pub texts : List (Bor (List ℕ)) → List (List ℕ)
texts items = map (λ item. item.now) items

pub texts-next : (items : List (Bor (List ℕ))) (i : ℕ) → i < length items → texts (take (i + 1) items) ≡ texts (take i items) ++ text_at items i ∷ []
texts-next [] i inside = absurd (omega arith)
texts-next (x ∷ items) zero inside = refl
texts-next (x ∷ items) (suc i) inside =
    let same : suc i + 1 ≡ suc (i + 1) = omega arith in
    ap (λ k. texts (take k (x ∷ items))) same ∙ ap (λ rest. x.now ∷ rest) (texts-next items i (omega arith))

pub texts-split : (items : List (Bor (List ℕ))) (i : ℕ) → i < length items →
    texts items ≡ texts (take i items) ++ text_at items i ∷ texts (drop (i + 1) items)
texts-split [] i inside = absurd (omega arith)
texts-split (x ∷ items) zero inside = refl
texts-split (x ∷ items) (suc i) inside =
    let same : suc i + 1 ≡ suc (i + 1) = omega arith in
    ap (λ rest. x.now ∷ rest) (texts-split items i (omega arith))
    ∙ ap (λ k. texts (take (suc i) (x ∷ items)) ++ text_at items i ∷ texts (drop k (x ∷ items))) (sym same)
