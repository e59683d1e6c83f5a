-- Halving over the keys of groups, which rise.
use Rattle.std.proofs.Common.{◌≡◌, ◌+◌, ◌-◌, ◌/◌, ◌∷◌, ◌<◌, ◌≤◌, Bool, List, None, Some, [], ap, arith, cond, false, get_or, length, refl, subst, suc, true, zero, ◌∙◌, inl, inr, ℕ}
use Rattle.std.specs.List.{AllPairs, find}
use Rattle.std.proofs.lemmas.Bool.{cases_eq, cases_lt, eq-eqb, ne_eqb}
use Rattle.std.proofs.lemmas.Option.{get_or_from_slice_get, slice_get_within}
use Rattle.ipv4_fields.specs.declared.endpoint.Endpoint.{Endpoint}
use Rattle.ipv4_fields.specs.Endpoint.{endpoint_number}
use Rattle.member_group.specs.Group.{group_of, has_key}
use Rattle.config_image.specs.Image.{Group}
use Rattle.config_image.specs.Lookup.{HasGroup}

abbrev pub Rising : List Group → Type 0
Rising config = AllPairs (λ group other. endpoint_number group.key < endpoint_number other.key) config

-- the keys before `low` are less than this one, and those from `high` on are greater
pub record IsBetween (key : Endpoint) (config : List Group) (low high : ℕ) : Type 0 where
  pub ordered : low ≤ high
  pub inside : high ≤ length config
  pub below : (k : ℕ) (group : Group) → k < low → HasGroup config k group → endpoint_number group.key < endpoint_number key
  pub above : (k : ℕ) (group : Group) → high ≤ k → HasGroup config k group → endpoint_number key < endpoint_number group.key

pub between_ends : (key : Endpoint) (config : List Group) → IsBetween key config 0 (length config)
between_ends key config = record {
  ordered = omega arith;
  inside = omega arith;
  below = λ k group before has. absurd (omega arith);
  above = λ k group behind has. let within = slice_get_within config k group has in absurd (omega arith);
}

pub group_there : (config : List Group) (i : ℕ) → i < length config → (group : Group) × HasGroup config i group
group_there [] i inside = absurd (omega arith)
group_there (group ∷ rest) zero inside = (group, refl)
group_there (group ∷ rest) (suc i) inside = group_there rest i (omega arith)

rising_at : (config : List Group) → Rising config → (i j : ℕ) (a b : Group) → i < j → HasGroup config i a → HasGroup config j b → endpoint_number a.key < endpoint_number b.key
rising_at config rising i j a b before at_i at_j =
    let less = rising i j a before (slice_get_within config j b at_j) in
    let first : get_or config i a ≡ a = get_or_from_slice_get config i a a at_i in
    let second : get_or config j a ≡ b = get_or_from_slice_get config j b a at_j in
    rw (first, second) at less

same_group : (config : List Group) (i j : ℕ) (a b : Group) → i ≡ j → HasGroup config i a → HasGroup config j b → a ≡ b
same_group config i j a b same at_i at_j =
    let at : HasGroup config j a = subst (λ (n : ℕ). HasGroup config n a) same at_i in cc

module _ (key : Endpoint) (config : List Group) (rising : Rising config) (low high middle : ℕ) (between : IsBetween key config low high) (group : Group) (has : HasGroup config middle group) (from : low ≤ middle) (to : middle < high) where
  pub between_above : endpoint_number group.key < endpoint_number key → IsBetween key config (middle + 1) high
  between_above less = record {
    ordered = omega arith;
    inside = between.inside;
    below = λ k other before at. elim (cases_eq k middle) [
      | inl same ↦ let is = ap (λ (g : Group). endpoint_number g.key) (same_group config k middle other group same at has) in omega arith
      | inr apart ↦ let smaller = rising_at config rising k middle other group (omega arith) at has in omega arith
    ];
    above = between.above;
  }

  pub between_below : endpoint_number key < endpoint_number group.key → IsBetween key config low middle
  between_below greater = record {
    ordered = from;
    inside = let within = between.inside in omega arith;
    below = between.below;
    above = λ k other behind at. elim (cases_eq k middle) [
      | inl same ↦ let is = ap (λ (g : Group). endpoint_number g.key) (same_group config k middle other group same at has) in omega arith
      | inr apart ↦ let larger = rising_at config rising middle k group other (omega arith) has at in omega arith
    ];
  }

-- ---- the group that is found, or none

find_at : (test : Group → Bool) (config : List Group) (i : ℕ) (group : Group) → HasGroup config i group → test group ≡ true → ((k : ℕ) (other : Group) → k < i → HasGroup config k other → test other ≡ false) → find test config ≡ Some group
find_at test [] i group has passes before = absurd cc
find_at test (first ∷ rest) zero group has passes before =
    let same : first ≡ group = cc in
    ap (λ b. cond b (Some first) (find test rest)) (ap test same ∙ passes) ∙ ap (λ g. Some g) same
find_at test (first ∷ rest) (suc i) group has passes before =
    ap (λ b. cond b (Some first) (find test rest)) (before 0 first (omega arith) refl)
    ∙ find_at test rest i group has passes (λ k other less at. before (suc k) other (omega arith) at)

find_none : (test : Group → Bool) (config : List Group) → ((k : ℕ) (other : Group) → HasGroup config k other → test other ≡ false) → find test config ≡ None
find_none test [] fails = refl
find_none test (first ∷ rest) fails =
    ap (λ b. cond b (Some first) (find test rest)) (fails 0 first refl) ∙ find_none test rest (λ k other at. fails (suc k) other at)

pub found_group : (key : Endpoint) (config : List Group) → Rising config → (i : ℕ) (group : Group) → HasGroup config i group → endpoint_number group.key ≡ endpoint_number key → group_of key config ≡ Some group
found_group key config rising i group has same =
    find_at (has_key key) config i group has (eq-eqb (endpoint_number group.key) (endpoint_number key) same)
    (λ k other before at. let less = rising_at config rising k i other group before at has in ne_eqb (endpoint_number other.key) (endpoint_number key) (λ e. omega arith))

pub found_none : (key : Endpoint) (config : List Group) (place : ℕ) → IsBetween key config place place → group_of key config ≡ None
found_none key config place between =
    find_none (has_key key) config (λ k other at. ne_eqb (endpoint_number other.key) (endpoint_number key) (λ e. elim (cases_lt k place) [
      | inl before ↦ let less = between.below k other before at in omega arith
      | inr behind ↦ let more = between.above k other behind at in omega arith
    ]))

-- ---- the middle

pub record IsMiddle (config : List Group) (low high middle : ℕ) : Type 0 where
  pub group : Group
  pub has : HasGroup config middle group
  pub from : low ≤ middle
  pub to : middle < high

pub middle_of : (key : Endpoint) (config : List Group) (low high : ℕ) → IsBetween key config low high → low < high → IsMiddle config low high (low + (high - low) / 2)
middle_of key config low high between apart =
    let inside = between.inside in
    let there = group_there config (low + (high - low) / 2) (omega arith) in
    record { group = there.0; has = there.1; from = omega arith; to = omega arith }
