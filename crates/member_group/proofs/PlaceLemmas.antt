-- Where groups and members stand.
use Rattle.std.proofs.Common.{◌+◌, ◌<◌, ◌∙◌, ◌≡◌, ◌≢◌, List, arith, false, get_or, inl, inr, length, sym, ℕ}
use Rattle.std.specs.Prelude.{eqb}
use Rattle.std.specs.List.{AllPairs}
use Rattle.std.proofs.lemmas.Bool.{cases_eq, cases_order, eq-eqb}
use Rattle.std.proofs.lemmas.Bool.Decides.{eqb_tells}
use Rattle.std.proofs.lemmas.List.{get_or_read}
use Rattle.ipv4_fields.specs.declared.endpoint.Endpoint.{Endpoint}
use Rattle.ipv4_fields.specs.Endpoint.{endpoint_number}
use Rattle.member_group.specs.declared.member.Member.{Member}
use Rattle.member_group.specs.Group.{GroupOf, has_id, has_key}
use Rattle.member_group.specs.Place.{IsGapFor, IsNowhere, IsOnlyAt}

pub not_equal : (a b : ℕ) → a ≢ b → eqb a b ≡ false
not_equal a b other = elim (eqb_tells a b) [ inl same ↦ absurd (other same.1) | inr differs ↦ differs.0 ]

-- ---- groups, in rising order of key

abbrev pub IsRising : {P : Type 0} → List (GroupOf P) → Type 0
IsRising config = AllPairs (λ group other. endpoint_number group.key < endpoint_number other.key) config

-- the groups below a place have keys below a key
abbrev pub IsBelowUpTo : {P : Type 0} → Endpoint → List (GroupOf P) → ℕ → Type 0
IsBelowUpTo {P} key config n = (k : ℕ) (d : GroupOf P) → k < n → endpoint_number (get_or config k d).key < endpoint_number key

pub only_at_key : {P : Type 0} (key : Endpoint) (config : List (GroupOf P)) (at : ℕ) (group : GroupOf P) → IsRising config → at < length config → group ≡ get_or config at group → endpoint_number group.key ≡ endpoint_number key → IsOnlyAt (has_key key) config at
only_at_key {P} key config at group rising inside is same =
    let here : (d : GroupOf P) → endpoint_number (get_or config at d).key ≡ endpoint_number key = λ d. rw (← get_or_read config at group inside is d) same in
    record {
      inside = inside;
      passes = λ d. eq-eqb _ _ (here d);
      others_fail = λ k d below other. not_equal _ _ (λ e. elim (cases_order k at) [
        | inl k_is ↦ other k_is
        | inr (inl before) ↦ let less = rising k at d before inside in let at_key = here d in omega arith
        | inr (inr behind) ↦ let less = rising at k d behind below in let at_key = here d in omega arith
      ]);
    }

pub gap_before : {P : Type 0} (key : Endpoint) (config : List (GroupOf P)) (at : ℕ) (group : GroupOf P) → IsRising config → at < length config → group ≡ get_or config at group → endpoint_number key < endpoint_number group.key → IsBelowUpTo key config at → IsGapFor key config at
gap_before {P} key config at group rising inside is greater below =
    let here : (d : GroupOf P) → endpoint_number key < endpoint_number (get_or config at d).key = λ d. rw (← get_or_read config at group inside is d) greater in
    record {
      inside = omega arith;
      before = below;
      behind = λ k d from_at within. elim (cases_eq k at) [
        | inl k_is ↦ rw k_is (here d)
        | inr other ↦ let less = rising at k d (omega arith) within in let at_key = here d in omega arith
      ];
    }

pub gap_at_end : {P : Type 0} (key : Endpoint) (config : List (GroupOf P)) → IsBelowUpTo key config (length config) → IsGapFor key config (length config)
gap_at_end key config below = record { inside = omega arith; before = below; behind = λ k d from_end within. absurd (omega arith) }

pub below_more : {P : Type 0} (key : Endpoint) (config : List (GroupOf P)) (at : ℕ) (group : GroupOf P) → at < length config → group ≡ get_or config at group → endpoint_number group.key < endpoint_number key → IsBelowUpTo key config at → IsBelowUpTo key config (at + 1)
below_more key config at group inside is less below k d within = elim (cases_eq k at) [
  | inl k_is ↦ rw k_is (rw (← get_or_read config at group inside is d) less)
  | inr other ↦ below k d (omega arith)
]

-- ---- members, with numbers of their own

abbrev pub IsDistinct : {P : Type 0} → List (Member P) → Type 0
IsDistinct members = AllPairs (λ member other. member.id ≢ other.id) members

-- no member below a place has a number
abbrev pub LacksUpTo : {P : Type 0} → ℕ → List (Member P) → ℕ → Type 0
LacksUpTo {P} id members n = (k : ℕ) (d : Member P) → k < n → (get_or members k d).id ≢ id

pub only_at_id : {P : Type 0} (id : ℕ) (members : List (Member P)) (at : ℕ) (member : Member P) → IsDistinct members → at < length members → member ≡ get_or members at member → member.id ≡ id → IsOnlyAt (has_id id) members at
only_at_id {P} id members at member distinct inside is same =
    let here : (d : Member P) → (get_or members at d).id ≡ id = λ d. rw (← get_or_read members at member inside is d) same in
    record {
      inside = inside;
      passes = λ d. eq-eqb _ _ (here d);
      others_fail = λ k d below other. not_equal _ _ (λ e. elim (cases_order k at) [
        | inl k_is ↦ other k_is
        | inr (inl before) ↦ distinct k at d before inside (e ∙ sym (here d))
        | inr (inr behind) ↦ distinct at k d behind below (here d ∙ sym e)
      ]);
    }

pub nowhere_id : {P : Type 0} (id : ℕ) (members : List (Member P)) → LacksUpTo id members (length members) → IsNowhere (has_id id) members
nowhere_id id members lacks k d within = not_equal _ _ (lacks k d within)

pub lacks_more : {P : Type 0} (id : ℕ) (members : List (Member P)) (at : ℕ) (member : Member P) → at < length members → member ≡ get_or members at member → member.id ≢ id → LacksUpTo id members at → LacksUpTo id members (at + 1)
lacks_more id members at member inside is differs lacks k d within = elim (cases_eq k at) [
  | inl k_is ↦ rw k_is (rw (← get_or_read members at member inside is d) differs)
  | inr other ↦ lacks k d (omega arith)
]
