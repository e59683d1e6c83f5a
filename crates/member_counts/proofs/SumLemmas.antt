-- Sums of one kind of count over the kept keys, and how an addition changes them.
use Rattle.std.proofs.Common.{◌≡◌, ◌+◌, ◌-◌, ◌<◌, ◌≤◌, ◌^◌, ◌∙◌, ◌∷◌, ◌⊎◌, Bool, Equal, Greater, Less, List, None, Ordering, Some, [], ap, ap₂, arith, false, inl, inr, leb, refl, sym, true, unwrap_or, zero-add, ℕ}
use Rattle.std.proofs.Math.Nat.{min-eq_left, min-eq_right}
use Rattle.std.proofs.lemmas.Bool.Decides.{leb_tells}
use Rattle.std.proofs.lemmas.List.Folds.{fold-map}
use Rattle.std.proofs.lemmas.List.Sums.{sum_by-cons}
use Rattle.std.proofs.lemmas.Map.Entries.{sum_by-remove_entry, sum_by-set_value}
use Rattle.std.specs.BTreeMap.{insert_entry, is_at}
use Rattle.std.specs.List.{sum_by}
use Rattle.std.specs.Map.{lookup, set_value, values_of}
use Rattle.std.specs.Option.{option_map}
use Rattle.member_counts.specs.declared.counts.Counts.{Counts}
use Rattle.member_counts.specs.declared.key.CountKey.{CountKey}
use Rattle.member_counts.specs.Counts.{capped, no_counts, plus}
use Rattle.member_counts.specs.Table.{GrowsBy, Table, plus_kept, sum_of, total}
use Rattle.member_counts.specs.body.Step.{GrowsEach}

-- the five kinds, so that each lemma is proved once
pub data Kind : Type 0 where
  Delivered : Kind
  Dropped : Kind
  NoMembers : Kind
  SendFailed : Kind
  Bytes : Kind

abbrev pub of : Kind → Counts → ℕ
of Delivered counts = counts.delivered
of Dropped counts = counts.dropped
of NoMembers counts = counts.no_members
of SendFailed counts = counts.send_failed
of Bytes counts = counts.bytes

pub of-plus : (kind : Kind) (counts more : Counts) → of kind (plus counts more) ≡ capped (of kind counts + of kind more)
of-plus Delivered counts more = refl
of-plus Dropped counts more = refl
of-plus NoMembers counts more = refl
of-plus SendFailed counts more = refl
of-plus Bytes counts more = refl

pub capped-below : (n : ℕ) → n < 2 ^ 64 → capped n ≡ n
capped-below n below = min-eq_left (omega arith)

pub GrowsEach-of_kinds : (old : Table) (counts : Counts) (new : Table) → ((kind : Kind) → GrowsBy (total (of kind) old) (of kind counts) (total (of kind) new)) → GrowsEach old counts new
GrowsEach-of_kinds old counts new grows = record {
  delivered = grows Delivered;
  dropped = grows Dropped;
  no_members = grows NoMembers;
  send_failed = grows SendFailed;
  bytes = grows Bytes;
}

abbrev pub kept_sum : (Counts → ℕ) → List (CountKey × Counts) → ℕ
kept_sum f entries = sum_by (λ entry. f entry.1) entries

sum_by-values_of : (f : Counts → ℕ) (entries : List (CountKey × Counts)) → sum_by f (values_of entries) ≡ kept_sum f entries
sum_by-values_of f entries = fold-map (λ (a : ℕ) (c : Counts). a + f c) (λ (e : CountKey × Counts). e.1) 0 entries

-- a kept key's count is a part of the sum
kept-le : (f : Counts → ℕ) (test : CountKey → Bool) (entries : List (CountKey × Counts)) (counts : Counts) → lookup test entries ≡ Some counts
    → f counts ≤ kept_sum f entries
kept-le f test entries counts found =
    let whole = sum_by-remove_entry f test entries in
    let there : unwrap_or (option_map f (lookup test entries)) 0 ≡ f counts = ap (λ o. unwrap_or (option_map f o) 0) found in
    omega (arith, whole, there, sum_by-values_of f entries)

-- a kept key's counts are added to
pub grows_at_kept : (entries : List (CountKey × Counts)) (gone : Counts) (test : CountKey → Bool) (counts more : Counts) → lookup test entries ≡ Some counts
    → GrowsEach (record { entries = entries; gone = gone }) more (record { entries = set_value test entries (plus counts more); gone = gone })
grows_at_kept entries gone test counts more found =
    GrowsEach-of_kinds _ _ _ (λ kind fits.
    let changed = sum_by-set_value (of kind) test entries counts (plus counts more) found in
    let part = kept-le (of kind) test entries counts found in
    let sum = of-plus kind counts more ∙ capped-below (of kind counts + of kind more) (omega (arith, part, fits)) in
    omega (arith, changed, sum, part, sum_by-values_of (of kind) entries, sum_by-values_of (of kind) (set_value test entries (plus counts more))))

-- a key that is not kept is inserted
kept_sum-insert_entry : (f : Counts → ℕ) (cmp : CountKey → CountKey → Ordering) (entries : List (CountKey × Counts)) (key : CountKey) (counts : Counts)
    → lookup (is_at (cmp key)) entries ≡ None → kept_sum f (insert_entry cmp entries key counts) ≡ kept_sum f entries + f counts
kept_sum-insert_entry f cmp [] key counts absent = sum_by-cons (λ (e : CountKey × Counts). f e.1) (key, counts) [] ∙ omega arith
kept_sum-insert_entry f cmp (entry ∷ entries) key counts absent = by (cmp key entry.0) refl (kept_sum-insert_entry f cmp entries key counts)
  where
    g : CountKey × Counts → ℕ
    g e = f e.1

    by : (found : Ordering) → cmp key entry.0 ≡ found
        → (lookup (is_at (cmp key)) entries ≡ None → kept_sum f (insert_entry cmp entries key counts) ≡ kept_sum f entries + f counts)
        → kept_sum f (insert_entry cmp (entry ∷ entries) key counts) ≡ kept_sum f (entry ∷ entries) + f counts
    by Less is after_rest = rw is (let whole = sum_by-cons g (key, counts) (entry ∷ entries) in omega (arith, whole))
    by Equal is after_rest = let found : Some entry.1 ≡ None = rw is at absent in cc
    by Greater is after_rest =
        let rest : lookup (is_at (cmp key)) entries ≡ None = rw is at absent in
        let before = sum_by-cons g entry entries in
        let after = sum_by-cons g entry (insert_entry cmp entries key counts) in
        rw is (omega (arith, before, after, after_rest rest))

pub grows_at_new : (entries : List (CountKey × Counts)) (gone : Counts) (cmp : CountKey → CountKey → Ordering) (key : CountKey) (counts : Counts)
    → lookup (is_at (cmp key)) entries ≡ None
    → GrowsEach (record { entries = entries; gone = gone }) counts (record { entries = insert_entry cmp entries key counts; gone = gone })
grows_at_new entries gone cmp key counts absent =
    GrowsEach-of_kinds _ _ _ (λ kind fits. omega (arith, kept_sum-insert_entry (of kind) cmp entries key counts absent))

-- the counts are added to what is gone
pub grows_gone : (entries : List (CountKey × Counts)) (gone more : Counts)
    → GrowsEach (record { entries = entries; gone = gone }) more (record { entries = entries; gone = plus gone more })
grows_gone entries gone more =
    GrowsEach-of_kinds _ _ _ (λ kind fits.
    let sum = of-plus kind gone more ∙ capped-below (of kind gone + of kind more) (omega arith) in
    omega (arith, sum))

-- a sum of counts over some keys, added in turn or at once
pub capped-plus : (a b : ℕ) → capped (capped a + b) ≡ capped (a + b)
capped-plus a b = by (leb_tells a (2 ^ 64 - 1))
  where
    by : ((leb a (2 ^ 64 - 1) ≡ true) × (a ≤ 2 ^ 64 - 1)) ⊎ ((leb a (2 ^ 64 - 1) ≡ false) × (2 ^ 64 - 1 < a)) → capped (capped a + b) ≡ capped (a + b)
    by (inl low) = ap (λ n. capped (n + b)) (min-eq_left low.1)
    by (inr high) =
        let full : capped a ≡ 2 ^ 64 - 1 = min-eq_right (omega (arith, high.1)) in
        let left : capped (capped a + b) ≡ 2 ^ 64 - 1 = min-eq_right (omega (arith, full)) in
        let right : capped (a + b) ≡ 2 ^ 64 - 1 = min-eq_right (omega (arith, high.1)) in
        left ∙ sym right

of-plus_kept : (kind : Kind) (counts : Counts) (first : CountKey × Counts) (entries : List (CountKey × Counts))
    → of kind (plus_kept (plus counts first.1) entries) ≡ capped (of kind counts + kept_sum (of kind) (first ∷ entries))
of-plus_kept kind counts first [] =
    let one = sum_by-cons (λ (e : CountKey × Counts). of kind e.1) first [] in
    of-plus kind counts first.1 ∙ ap (λ n. capped (of kind counts + n)) (sym (one ∙ omega arith))
of-plus_kept kind counts first (second ∷ entries) =
    let whole = sum_by-cons (λ (e : CountKey × Counts). of kind e.1) first (second ∷ entries) in
    let regrouped : of kind counts + of kind first.1 + kept_sum (of kind) (second ∷ entries) ≡ of kind counts + kept_sum (of kind) (first ∷ (second ∷ entries)) = omega (arith, whole) in
    of-plus_kept kind (plus counts first.1) second entries
    ∙ ap (λ n. capped (n + kept_sum (of kind) (second ∷ entries))) (of-plus kind counts first.1)
    ∙ capped-plus (of kind counts + of kind first.1) (kept_sum (of kind) (second ∷ entries))
    ∙ ap capped regrouped

pub of-no_counts : (kind : Kind) → of kind no_counts ≡ 0
of-no_counts Delivered = refl
of-no_counts Dropped = refl
of-no_counts NoMembers = refl
of-no_counts SendFailed = refl
of-no_counts Bytes = refl

of-sum : (kind : Kind) (entries : List (CountKey × Counts)) → of kind (plus_kept no_counts entries) ≡ capped (kept_sum (of kind) entries)
of-sum kind [] = of-no_counts kind
of-sum kind (first ∷ entries) = of-plus_kept kind no_counts first entries ∙ ap (λ n. capped (n + kept_sum (of kind) (first ∷ entries))) (of-no_counts kind) ∙ ap capped (zero-add (kept_sum (of kind) (first ∷ entries)))

pub plus_kept-sum_of : (entries : List (CountKey × Counts)) → plus_kept no_counts entries ≡ sum_of entries
plus_kept-sum_of entries =
    let make : ℕ → ℕ → ℕ → ℕ → ℕ → Counts = λ delivered dropped no_members send_failed bytes.
    record { delivered = delivered; dropped = dropped; no_members = no_members; send_failed = send_failed; bytes = bytes } in
    ap₂ (λ (f : ℕ → Counts) n. f n)
    (ap₂ (λ (f : ℕ → ℕ → Counts) n. f n)
    (ap₂ (λ (f : ℕ → ℕ → ℕ → Counts) n. f n)
    (ap₂ make (of-sum Delivered entries) (of-sum Dropped entries))
    (of-sum NoMembers entries))
    (of-sum SendFailed entries))
    (of-sum Bytes entries)

-- exact below 2^64
pub of-plus_kept-below : (kind : Kind) (counts : Counts) (entries : List (CountKey × Counts)) → of kind counts + kept_sum (of kind) entries < 2 ^ 64
    → of kind (plus_kept counts entries) ≡ of kind counts + kept_sum (of kind) entries
of-plus_kept-below kind counts [] below = omega arith
of-plus_kept-below kind counts (first ∷ entries) below = of-plus_kept kind counts first entries ∙ capped-below (of kind counts + kept_sum (of kind) (first ∷ entries)) below
