-- What the changes of a group come to where the member stands, and that they keep it a group.
use Rattle.std.proofs.Common.{◌-◌, ◌<◌, ◌∙◌, ◌∷◌, ◌≡◌, ◌≢◌, ◌^◌, Bool, List, None, [], ap, arith, false, get_or, inl, inr, length, length-append, length-set, map, refl, set, suc, sym, take, true, ℕ}
use Rattle.std.specs.Prelude.{if◌then◌else◌, IfSome, Option, slice_index_or}
use Rattle.std.proofs.lemmas.Bool.{cases_eq, eq-eqb, true≢false}
use Rattle.std.proofs.lemmas.List.{get_or-take, get_or_read, length-take-le}
use Rattle.std.proofs.lemmas.List.Elements.{All-push, All-set, All-take}
use Rattle.std.proofs.lemmas.List.Quantifiers.{all_pairs_push}
use Rattle.bpf_verify.specs.Program.{IsProgram, ProgramValue}
use Rattle.ipv4_fields.specs.Endpoint.{IsEndpoint}
use Rattle.ipv4_fields.specs.declared.endpoint.Endpoint.{Endpoint}
use Rattle.member_group.specs.declared.TheConstants.{MEMBER_LIMIT}
use Rattle.member_group.specs.declared.member.Member.{Member}
use Rattle.member_group.specs.Command.{joined, left, locked, with_filter, with_member}
use Rattle.member_group.specs.Group.{GroupOf, IsGroup, IsMember, has_id}
use Rattle.member_group.specs.Place.{IsNowhere, IsOnlyAt, last_in_gap}
use Rattle.member_group.proofs.ListLemmas.{AllPairs-set, AllPairs-take, element_at, last_in_gap-end, last_in_gap-inner, map-nowhere, map-only_at}

-- ---- what a definition comes to at a place

-- the front without the last element, where the element that passes is not the last
only_at_front : {X : Type 0} (test : X → Bool) (xs : List X) (at : ℕ) → suc at < length xs → IsOnlyAt test xs at → IsOnlyAt test (take (length xs - 1) xs) at
only_at_front test xs at inner only =
    let last = length xs - 1 in
    let size : length (take last xs) ≡ last = length-take-le last xs (omega arith) in
    record {
      inside = omega arith;
      passes = λ d. rw (get_or-take last xs at d (omega arith)) (only.passes d);
      others_fail = λ k d below other. rw (get_or-take last xs k d (omega arith)) (only.others_fail k d (omega arith) other);
    }

nowhere_front : {X : Type 0} (test : X → Bool) (xs : List X) (at : ℕ) → suc at ≡ length xs → IsOnlyAt test xs at → IsNowhere test (take (length xs - 1) xs)
nowhere_front test xs at end only k d below =
    let last = length xs - 1 in
    let size : length (take last xs) ≡ last = length-take-le last xs (omega arith) in
    rw (get_or-take last xs k d (omega arith)) (only.others_fail k d (omega arith) (omega arith))

pub map-last_in_gap : {X : Type 0} (test : X → Bool) (xs : List X) (at : ℕ) → IsOnlyAt test xs at → map (λ x. if test x then slice_index_or xs (length xs - 1) x else x) (take (length xs - 1) xs) ≡ last_in_gap at xs
map-last_in_gap {X} test xs at only =
    let inside = only.inside in
    let last = length xs - 1 in
    let change : X → X = λ x. slice_index_or xs last x in
    elim (cases_eq (suc at) (length xs)) [
      | inl end ↦
          map-nowhere test change (take last xs) (nowhere_front test xs at end only)
          ∙ ap (λ n. take n xs) (omega arith)
          ∙ sym (last_in_gap-end at xs end)
      | inr other ↦
          let inner : suc at < length xs = omega arith in
          let size : length (take last xs) ≡ last = length-take-le last xs (omega arith) in
          let x = element_at (take last xs) at (omega arith) in
          let z = element_at xs last (omega arith) in
          map-only_at test change (take last xs) at x.0 x.1 (only_at_front test xs at inner only)
          ∙ ap (λ y. set (take last xs) at y) (sym (get_or_read xs last z.0 (omega arith) z.1 x.0))
          ∙ sym (last_in_gap-inner at xs z.0 inner z.1)
    ]

pub left-only_at : {P : Type 0} (id : ℕ) (group : GroupOf P) (at : ℕ) → IsOnlyAt (has_id id) group.members at → left id group ≡ record { key = group.key; selector = group.selector; members = last_in_gap at group.members }
left-only_at {P} id group at only =
    ap (λ (members : List (Member P)). record group { members = members }) (map-last_in_gap (has_id id) group.members at only)

pub with_member-only_at : {P : Type 0} (id : ℕ) (change : Member P → Member P) (group : GroupOf P) (at : ℕ) (member : Member P) → member ≡ get_or group.members at member → IsOnlyAt (has_id id) group.members at → with_member id change group ≡ record { key = group.key; selector = group.selector; members = set group.members at (change member) }
with_member-only_at {P} id change group at member is only =
    ap (λ (members : List (Member P)). record group { members = members }) (map-only_at (has_id id) change group.members at member is only)

-- ---- a changed group is a group

pub joined_is_group : (id : ℕ) (to : Endpoint) (group : GroupOf ProgramValue) → id < 2 ^ 32 → IsEndpoint to → IsGroup group → IsNowhere (has_id id) group.members → length group.members < MEMBER_LIMIT → IsGroup (joined id to group)
joined_is_group id to group id_fits is_endpoint is_group none room = record {
  key = is_group.key;
  limited = omega (arith, length-append group.members (record { id = id; to = to; filter = None; locked = false } ∷ []));
  distinct = all_pairs_push (λ member other. member.id ≢ other.id) group.members _ is_group.distinct (λ k d below same. true≢false (sym (eq-eqb _ _ same) ∙ none k d below));
  selector = is_group.selector;
  members = All-push IsMember group.members _ is_group.members (record { id = id_fits; to = is_endpoint; filter = tt });
}

pub left_is_group : (group : GroupOf ProgramValue) (at : ℕ) → IsGroup group → at < length group.members → IsGroup (record { key = group.key; selector = group.selector; members = last_in_gap at group.members })
left_is_group group at is_group inside =
    let members = group.members in
    let last = length members - 1 in
    let front = take last members in
    let size : length front ≡ last = length-take-le last members (omega arith) in
    let limit = is_group.limited in
    let distinct = AllPairs-take (λ (member : Member ProgramValue) other. member.id ≢ other.id) last members is_group.distinct in
    let kept = All-take IsMember last members is_group.members in
    elim (cases_eq (suc at) (length members)) [
      | inl end ↦
          let is_last : at ≡ last = omega arith in
          rw (last_in_gap-end at members end, is_last)
          record { key = is_group.key; limited = omega arith; distinct = distinct; selector = is_group.selector; members = kept }
      | inr other ↦
          let z = element_at members last (omega arith) in
          let apart : (k : ℕ) (d : Member ProgramValue) → k < last → (get_or front k d).id ≢ z.0.id = λ k d below.
          rw (get_or-take last members k d below, get_or_read members last z.0 (omega arith) z.1 d) (is_group.distinct k last d below (omega arith)) in
          rw (last_in_gap-inner at members z.0 (omega arith) z.1)
          record {
            key = is_group.key;
            limited = omega (arith, length-set front at z.0);
            distinct = AllPairs-set (λ (member : Member ProgramValue) other. member.id ≢ other.id) front at z.0 (λ k d before below. apart k d (omega arith)) (λ k d behind below same. apart k d (omega arith) (sym same)) distinct;
            selector = is_group.selector;
            members = All-set IsMember front at z.0 (rw z.1 (is_group.members last z.0 (omega arith))) kept;
          }
    ]

-- the member that passes is changed to another one of its number
with_member_is_group : (id : ℕ) (change : Member ProgramValue → Member ProgramValue) (group : GroupOf ProgramValue) (at : ℕ) → IsGroup group → IsOnlyAt (has_id id) group.members at
    → ((member : Member ProgramValue) → (change member).id ≡ member.id) → ((member : Member ProgramValue) → IsMember member → IsMember (change member)) → IsGroup (with_member id change group)
with_member_is_group id change group at is_group only same_id still =
    let members = group.members in
    let inside = only.inside in
    let member = element_at members at inside in
    let changed : Member ProgramValue = change member.0 in
    let here : (d : Member ProgramValue) → (get_or members at d).id ≡ changed.id = λ d.
    ap (λ (m : Member ProgramValue). m.id) (sym (get_or_read members at member.0 inside member.1 d)) ∙ sym (same_id member.0) in
    let limit = is_group.limited in
    rw (with_member-only_at id change group at member.0 member.1 only)
    record {
      key = is_group.key;
      limited = omega (arith, length-set members at changed);
      distinct = AllPairs-set (λ (m : Member ProgramValue) other. m.id ≢ other.id) members at changed (λ k d before below same. is_group.distinct k at d before inside (same ∙ sym (here d))) (λ k d behind below same. is_group.distinct at k d behind below (here d ∙ same)) is_group.distinct;
      selector = is_group.selector;
      members = All-set IsMember members at changed (still member.0 (rw member.1 (is_group.members at member.0 inside))) is_group.members;
    }

pub with_filter_is_group : (id : ℕ) (filter : Option ProgramValue) (group : GroupOf ProgramValue) (at : ℕ) → IsGroup group → IsOnlyAt (has_id id) group.members at → IfSome filter IsProgram → IsGroup (with_filter id filter group)
with_filter_is_group id filter group at is_group only program =
    with_member_is_group id (λ member. record member { filter = filter }) group at is_group only (λ member. refl)
    (λ member before. record { id = before.id; to = before.to; filter = program })

pub locked_is_group : (id : ℕ) (group : GroupOf ProgramValue) (at : ℕ) → IsGroup group → IsOnlyAt (has_id id) group.members at → IsGroup (locked id group)
locked_is_group id group at is_group only =
    with_member_is_group id (λ member. record member { locked = true }) group at is_group only (λ member. refl)
    (λ member before. record { id = before.id; to = before.to; filter = before.filter })
