-- Keys are the same by their order exactly if their groups and members are.
use Rattle.std.proofs.Common.{◌≡◌, ◌==◌, ◌&&◌, Bool, Equal, Greater, Less, List, None, Option, Ordering, Some, ap, ap₂, arith, is_eq, nat_cmp, nat_eq, refl, subst, sym, true, ℕ}
use Rattle.std.proofs.Math.Path.{fun_ext}
use Rattle.std.proofs.lemmas.Bool.Decides.{Decides-and, Decides-eqb, Decides-like, nat_tests, same_from_decides}
use Rattle.std.specs.BTreeMap.{is_at}
use Rattle.std.specs.Bool.{Decides}
use Rattle.std.proofs.lemmas.Map.Keys.{IsDistinct-from_sorted}
use Rattle.std.specs.Cmp.{IsEquivalence}
use Rattle.std.specs.List.{IsDistinct}
use Rattle.std.specs.List.Sorted.{IsStrictlySortedBy}
use Rattle.std.specs.Map.{keys_of}
use Rattle.std.specs.Option.{option_cmp, option_eq}
use Rattle.std.specs.Ordering.{eq_by_cmp, ordering_then}
use Rattle.ipv4_fields.specs.declared.endpoint.Endpoint.{Endpoint}
use Rattle.member_counts.specs.contracts.key.CountKeyOrd.TheImpl as key_ord
use Rattle.member_counts.specs.declared.counts.Counts.{Counts}
use Rattle.member_counts.specs.declared.key.CountKey.{CountKey}
use Rattle.member_counts.specs.Key.{same_group, same_key}

-- the order of the map's keys
abbrev pub order : CountKey → CountKey → Ordering
order = (key_ord.ghosts).cmp

is_eq-then : (first second : Ordering) → is_eq (ordering_then first second) ≡ (is_eq first && is_eq second)
is_eq-then Less second = refl
is_eq-then Equal second = refl
is_eq-then Greater second = refl

is_eq-nat_cmp : (a b : ℕ) → is_eq (nat_cmp a b) ≡ (a == b)
is_eq-nat_cmp a b = grind (arith, nat_tests)

is_eq-option_cmp : (a b : Option ℕ) → is_eq (option_cmp nat_cmp a b) ≡ option_eq nat_eq a b
is_eq-option_cmp None None = refl
is_eq-option_cmp None (Some b) = refl
is_eq-option_cmp (Some a) None = refl
is_eq-option_cmp (Some a) (Some b) = is_eq-nat_cmp a b

pub is_at-order : (key other : CountKey) → is_at (order key) other ≡ same_key key other
is_at-order key other = simp (is_eq-then, is_eq-nat_cmp, is_eq-option_cmp)

pub same_test : (key : CountKey) → is_at (order key) ≡ same_key key
same_test key = fun_ext (is_at-order key)

Decides-option_eq : (a b : Option ℕ) → Decides (option_eq nat_eq a b) (a ≡ b)
Decides-option_eq None None = (λ same. refl, λ same. refl)
Decides-option_eq None (Some b) = (λ same. cc, λ same. cc)
Decides-option_eq (Some a) None = (λ same. cc, λ same. cc)
Decides-option_eq (Some a) (Some b) = Decides-like (a == b) (λ same. ap Some same) (λ same. cc) (Decides-eqb a b)

same_groups : {group other : Endpoint} → group ≡ other → (group.address ≡ other.address) × (group.port ≡ other.port)
same_groups same = (ap (λ g. g.address) same, ap (λ g. g.port) same)

same_parts : (key other : CountKey) → (key.group.address ≡ other.group.address) × (key.group.port ≡ other.group.port) → key.member ≡ other.member → key ≡ other
same_parts key other group member =
    let endpoint : ℕ → ℕ → Endpoint = λ address port. record { address = address; port = port } in
    let make : Endpoint → Option ℕ → CountKey = λ group member. record { group = group; member = member } in
    ap₂ make (ap₂ endpoint group.0 group.1) member

pub Decides-same_key : (key other : CountKey) → Decides (same_key key other) (key ≡ other)
Decides-same_key key other =
    Decides-like (same_key key other) (λ same. same_parts key other same.0 same.1) (λ same. (same_groups (ap (λ k. k.group) same), ap (λ k. k.member) same))
    (Decides-and (same_group key.group other.group) (option_eq nat_eq key.member other.member)
    (Decides-and (key.group.address == other.group.address) (key.group.port == other.group.port)
    (Decides-eqb key.group.address other.group.address) (Decides-eqb key.group.port other.group.port)) (Decides-option_eq key.member other.member))

pub same_key_itself : (key : CountKey) → same_key key key ≡ true
same_key_itself key = (Decides-same_key key key).1 refl

pub same_from_same_key : (key other : CountKey) → same_key key other ≡ true → key ≡ other
same_from_same_key key other = (Decides-same_key key other).0

pub same_key_from : (key other : CountKey) → key ≡ other → same_key key other ≡ true
same_key_from key other = (Decides-same_key key other).1

pub same_key-symm : (key other : CountKey) → same_key key other ≡ same_key other key
same_key-symm key other = same_from_decides (same_key key other) (same_key other key) (Decides-same_key key other)
    (Decides-like (same_key other key) sym sym (Decides-same_key other key))

pub same_keys_laws : IsEquivalence same_key
same_keys_laws = record {
  refl = same_key_itself;
  symm = same_key-symm;
  congr = λ key other third same. ap (λ k. same_key k third) (same_from_same_key key other same);
}

pub distinct_keys : (entries : List (CountKey × Counts)) → IsStrictlySortedBy order (keys_of entries) → IsDistinct same_key (keys_of entries)
distinct_keys entries rising =
    let same : eq_by_cmp order ≡ same_key = fun_ext same_test in
    subst (λ (test : CountKey → CountKey → Bool). IsDistinct test (keys_of entries)) same (IsDistinct-from_sorted order (keys_of entries) rising)
