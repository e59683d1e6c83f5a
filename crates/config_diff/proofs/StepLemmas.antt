-- One command on a member of a group: it is not refused, and what it leaves.
use Rattle.std.proofs.Common.{◌++◌, ◌-◌, ◌<◌, ◌∙◌, ◌∷◌, ◌≡◌, Bool, List, None, Some, [], ap, arith, false, get_or, length, length-append, map, refl, take, true, ℕ}
use Rattle.std.specs.Prelude.{if◌then◌else◌, Option, is_none, is_some, nat_le}
use Rattle.std.specs.Option.{option_and_then}
use Rattle.std.proofs.lemmas.Bool.{lt-leb}
use Rattle.ipv4_fields.specs.declared.endpoint.Endpoint.{Endpoint}
use Rattle.ipv4_fields.specs.Endpoint.{endpoint_number}
use Rattle.member_group.specs.declared.TheConstants.{MEMBER_LIMIT}
use Rattle.member_group.specs.declared.command.Command.TheVariants.{ClearFilter, Join, Leave, LockFilter, SetFilter}
use Rattle.member_group.specs.declared.member.Member.{Member}
use Rattle.member_group.specs.declared.refusal.Refusal.TheVariants.{GroupFull, Locked, MemberExists, NoMember, NoProgram}
use Rattle.member_group.specs.Command.{joined, left, locked, with_changed, with_member}
use Rattle.member_group.specs.Group.{GroupOf, group_of, has_id, member_of}
use Rattle.member_group.specs.Refusal.{clear_filter_causes, first_of, in_group, is_locked, join_causes, member_causes, set_filter_causes}
use Rattle.config_diff.specs.Lead.{LeadTo}
use Rattle.config_diff.proofs.NumberedLemmas.{Lacks, change_at, change_nothing, find_at, find_nothing}

abbrev pub key_number : {P : Type 0} → GroupOf P → ℕ
key_number group = endpoint_number group.key

abbrev pub id_of : {P : Type 0} → Member P → ℕ
id_of member = member.id

abbrev pub member_with : {P : Type 0} → ℕ → Endpoint → Option P → Bool → Member P
member_with id to filter locked = record { id = id; to = to; filter = filter; locked = locked }

abbrev pub fresh : {P : Type 0} → ℕ → Endpoint → Member P
fresh id to = record { id = id; to = to; filter = None; locked = false }

abbrev pub group_with : {P : Type 0} → Endpoint → Option P → List (Member P) → GroupOf P
group_with key selector members = record { key = key; selector = selector; members = members }

-- ---- the group of a key between others

module _ {P : Type 0} (z : GroupOf P) (xs ys : List (GroupOf P)) (before : Lacks key_number (endpoint_number z.key) xs) (behind : Lacks key_number (endpoint_number z.key) ys) where
  pub found : group_of z.key (xs ++ z ∷ ys) ≡ Some z
  found = find_at key_number z xs ys before

  pub changed : (f : GroupOf P → GroupOf P) → with_changed z.key f (xs ++ z ∷ ys) ≡ xs ++ f z ∷ ys
  changed f = change_at key_number f z xs ys before behind

-- ---- the last member leaves

take_front : {X : Type 0} (xs ys : List X) → take (length xs) (xs ++ ys) ≡ xs
take_front [] ys = refl
take_front (x ∷ xs) ys = ap (λ rest. x ∷ rest) (take_front xs ys)

left_last : {P : Type 0} (z : Member P) (xs : List (Member P)) → Lacks id_of z.id xs →
    map (λ member. if has_id z.id member then get_or (xs ++ z ∷ []) (length (xs ++ z ∷ []) - 1) member else member) (take (length (xs ++ z ∷ []) - 1) (xs ++ z ∷ [])) ≡ xs
left_last {P} z xs lacks =
    let size : length (xs ++ z ∷ []) - 1 ≡ length xs = let all = length-append xs (z ∷ []) in omega arith in
    ap (λ n. map (λ member. if has_id z.id member then get_or (xs ++ z ∷ []) (length (xs ++ z ∷ []) - 1) member else member) (take n (xs ++ z ∷ []))) size
    ∙ ap (map (λ member. if has_id z.id member then get_or (xs ++ z ∷ []) (length (xs ++ z ∷ []) - 1) member else member)) (take_front xs (z ∷ []))
    ∙ change_nothing id_of (λ member. get_or (xs ++ z ∷ []) (length (xs ++ z ∷ []) - 1) member) z.id xs lacks

-- ---- commands on the members of a group between others

module _ {P : Type 0} (key : Endpoint) (selector : Option P) (xs ys : List (GroupOf P)) (before : Lacks key_number (endpoint_number key) xs) (behind : Lacks key_number (endpoint_number key) ys) where
  abbrev pub among : List (Member P) → List (GroupOf P)
  among members = xs ++ group_with key selector members ∷ ys

  pub join_leads : (id : ℕ) (to : Endpoint) (members : List (Member P)) → Lacks id_of id members → length members < MEMBER_LIMIT →
      LeadTo (Join key id to ∷ []) (among members) (among (members ++ fresh id to ∷ []))
  join_leads id to members lacks room =
      let group : GroupOf P = group_with key selector members in (
        ap (in_group (join_causes id)) (found group xs ys before behind)
            ∙ ap (λ member. first_of ((is_some member, MemberExists) ∷ (nat_le MEMBER_LIMIT (length members), GroupFull) ∷ [])) (find_nothing id_of id members lacks)
            ∙ ap (λ full. first_of ((full, GroupFull) ∷ [])) (lt-leb MEMBER_LIMIT (length members) room),
        changed group xs ys before behind (joined id to),
      )

  pub leave_leads : (z : Member P) (members : List (Member P)) → Lacks id_of z.id members →
      LeadTo (Leave key z.id ∷ []) (among (members ++ z ∷ [])) (among members)
  leave_leads z members lacks =
      let group : GroupOf P = group_with key selector (members ++ z ∷ []) in (
        ap (in_group (member_causes z.id)) (found group xs ys before behind)
            ∙ ap (λ member. first_of ((is_none member, NoMember) ∷ [])) (find_at id_of z members [] lacks),
        changed group xs ys before behind (left z.id) ∙ ap among (left_last z members lacks),
      )

  module _ (id : ℕ) (to : Endpoint) (front back : List (Member P)) (no_front : Lacks id_of id front) (no_back : Lacks id_of id back) where
    abbrev pub around : Member P → List (GroupOf P)
    around member = among (front ++ member ∷ back)

    member_found : (filter : Option P) (locked : Bool) → member_of id (group_with key selector (front ++ member_with id to filter locked ∷ back)) ≡ Some (member_with id to filter locked)
    member_found filter locked = find_at id_of (member_with id to filter locked) front back no_front

    member_changed : (filter : Option P) (locked : Bool) (f : Member P → Member P) →
        with_changed key (with_member id f) (around (member_with id to filter locked)) ≡ around (f (member_with id to filter locked))
    member_changed filter locked f =
        changed (group_with key selector (front ++ member_with id to filter locked ∷ back)) xs ys before behind (with_member id f)
        ∙ ap among (change_at id_of f (member_with id to filter locked) front back no_front no_back)

    pub set_leads : (old : Option P) (new : P) → LeadTo (SetFilter key id new ∷ []) (around (member_with id to old false)) (around (member_with id to (Some new) false))
    set_leads old new =
        let group : GroupOf P = group_with key selector (front ++ member_with id to old false ∷ back) in (
          ap (in_group (set_filter_causes id)) (found group xs ys before behind)
              ∙ ap (λ member. first_of ((is_none member, NoMember) ∷ (is_locked member, Locked) ∷ [])) (member_found old false),
          member_changed old false (λ member. record member { filter = Some new }),
        )

    pub clear_leads : (old : P) → LeadTo (ClearFilter key id ∷ []) (around (member_with id to (Some old) false)) (around (member_with id to None false))
    clear_leads old =
        let group : GroupOf P = group_with key selector (front ++ member_with id to (Some old) false ∷ back) in (
          ap (in_group (clear_filter_causes id)) (found group xs ys before behind)
              ∙ ap (λ member. first_of ((is_none member, NoMember) ∷ (is_locked member, Locked) ∷ (is_none (option_and_then (λ member. member.filter) member), NoProgram) ∷ []))
              (member_found (Some old) false),
          member_changed (Some old) false (λ member. record member { filter = None }),
        )

    pub lock_leads : (filter : Option P) → LeadTo (LockFilter key id ∷ []) (around (member_with id to filter false)) (around (member_with id to filter true))
    lock_leads filter =
        let group : GroupOf P = group_with key selector (front ++ member_with id to filter false ∷ back) in (
          ap (in_group (member_causes id)) (found group xs ys before behind)
              ∙ ap (λ member. first_of ((is_none member, NoMember) ∷ [])) (member_found filter false),
          member_changed filter false (λ member. record member { locked = true }),
        )
