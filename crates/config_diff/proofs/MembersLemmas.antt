-- The members of a group become others.
use Rattle.std.proofs.Common.{◌++◌, ◌<◌, ◌≤◌, ◌∙◌, ◌∷◌, ◌≡◌, Bool, List, None, Some, [], ap, append-nil, append_assoc, arith, false, inl, inr, length, length-append, map, refl, reverse, subst, sym, true, ℕ}
use Rattle.std.specs.Prelude.{◌&&◌, ◌||◌, not, if◌then◌else◌, Option, flat_map, option_to_list}
use Rattle.std.proofs.lemmas.Bool.{cases_Bool, eqb-true, true≢false}
use Rattle.std.proofs.lemmas.List.{map-append, reverse-append}
use Rattle.ipv4_fields.specs.declared.endpoint.Endpoint.{Endpoint}
use Rattle.ipv4_fields.specs.Endpoint.{endpoint_number}
use Rattle.member_group.specs.declared.TheConstants.{MEMBER_LIMIT}
use Rattle.member_group.specs.declared.command.Command.TheVariants.{ClearFilter, Join, Leave, LockFilter, SetFilter}
use Rattle.member_group.specs.declared.member.Member.{Member}
use Rattle.member_group.specs.Group.{GroupOf}
use Rattle.config_diff.specs.Lead.{LeadTo}
use Rattle.config_diff.specs.Rules.{rules_of_member}
use Rattle.config_diff.specs.body.Changes.{can_stay, filter_changes, is_same_endpoint, is_same_option, lock_changes, member_changes, members_changes, replaced_members, set_or_clear}
use Rattle.config_diff.proofs.LeadLemmas.{lead_both}
use Rattle.config_diff.proofs.NumberedLemmas.{AreDistinct, Lacks, distinct_around, distinct_other}
use Rattle.config_diff.proofs.StepLemmas.{among, around, clear_leads, fresh, id_of, join_leads, key_number, leave_leads, lock_leads, member_with, set_leads}

-- a test of programs answers yes of the same program alone
abbrev pub IsTest : {P : Type 0} → (P → P → Bool) → Type 0
IsTest {P} same = (p q : P) → same p q ≡ true → p ≡ q

pub same_option : {P : Type 0} (same : P → P → Bool) → IsTest same → (one other : Option P) → is_same_option same one other ≡ true → one ≡ other
same_option same test None None is = refl
same_option same test None (Some q) is = absurd (true≢false (sym is))
same_option same test (Some p) None is = absurd (true≢false (sym is))
same_option same test (Some p) (Some q) is = ap (λ program. Some program) (test p q is)

both_true : (a b : Bool) → (a && b) ≡ true → (a ≡ true) × (b ≡ true)
both_true true b is = (refl, is)
both_true false b is = absurd (true≢false (sym is))

pub endpoint_of_parts : {address other_address port other_port : ℕ} → address ≡ other_address → port ≡ other_port →
    ◌≡◌ {A = Endpoint} (record { address = address; port = port }) (record { address = other_address; port = other_port })
endpoint_of_parts {address} {other_address} {port} {other_port} first second =
    ap (λ (n : ℕ). let it : Endpoint = record { address = n; port = port } in it) first ∙ ap (λ (n : ℕ). let it : Endpoint = record { address = other_address; port = n } in it) second

same_endpoint : (one other : Endpoint) → is_same_endpoint one other ≡ true → one ≡ other
same_endpoint one other is =
    let both = both_true _ _ is in
    endpoint_of_parts (eqb-true one.address other.address both.0) (eqb-true one.port other.port both.1)

module _ {P : Type 0} (key : Endpoint) (selector : Option P) (xs ys : List (GroupOf P)) (before : Lacks key_number (endpoint_number key) xs) (behind : Lacks key_number (endpoint_number key) ys) where
  abbrev at : List (Member P) → List (GroupOf P)
  at members = among key selector xs ys before behind members

  -- ---- a member where it is

  module _ (id : ℕ) (to : Endpoint) (front back : List (Member P)) (no_front : Lacks id_of id front) (no_back : Lacks id_of id back) where
    abbrev one : Option P → Bool → List (GroupOf P)
    one filter locked = around key selector xs ys before behind id to front back no_front no_back (member_with id to filter locked)

    lock_changes_lead : (filter : Option P) (locked : Bool) → LeadTo (lock_changes key id false locked) (one filter false) (one filter locked)
    lock_changes_lead filter false = refl
    lock_changes_lead filter true = lock_leads key selector xs ys before behind id to front back no_front no_back filter

    set_or_clear_leads : (old new : Option P) → (old ≡ None → new ≡ None → ⊥) →
        LeadTo (set_or_clear (λ program. SetFilter key id program) (ClearFilter key id) new) (one old false) (one new false)
    set_or_clear_leads old (Some q) some = set_leads key selector xs ys before behind id to front back no_front no_back old q
    set_or_clear_leads (Some p) None some = clear_leads key selector xs ys before behind id to front back no_front no_back p
    set_or_clear_leads None None some = absurd (some refl refl)

    filter_changes_lead : (same : P → P → Bool) → IsTest same → (old new : Option P) → LeadTo (filter_changes same key id old new) (one old false) (one new false)
    filter_changes_lead same test old new = elim (cases_Bool (is_same_option same old new)) [
      | inl is ↦ rw is (ap (λ filter. one filter false) (same_option same test old new is))
      | inr differs ↦ rw differs (set_or_clear_leads old new (λ no_old no_new. true≢false (rw (no_old, no_new) at differs)))
    ]

    stay_leads : (same : P → P → Bool) → IsTest same → (old new : Option P) (locked stays : Bool) →
        (not locked || (stays && is_same_option same old new)) ≡ true →
        LeadTo (filter_changes same key id old new ++ lock_changes key id locked stays) (one old locked) (one new stays)
    stay_leads same test old new false stays can =
        lead_both (filter_changes same key id old new) (lock_changes key id false stays) (one old false) (one new false) (one new stays)
        (filter_changes_lead same test old new) (lock_changes_lead new stays)
    stay_leads same test old new true true can = rw can (ap (λ filter. one filter true) (same_option same test old new can))
    stay_leads same test old new true false can = absurd (true≢false (sym can))

    -- the filter and the lock of one that has just joined
    rest_of_rules_leads : (filter : Option P) (locked : Bool) →
        LeadTo (map (λ program. SetFilter key id program) (option_to_list filter) ++ (if locked then LockFilter key id ∷ [] else [])) (one None false) (one filter locked)
    rest_of_rules_leads None false = refl
    rest_of_rules_leads None true = lock_leads key selector xs ys before behind id to front back no_front no_back None
    rest_of_rules_leads (Some q) false = set_leads key selector xs ys before behind id to front back no_front no_back None q
    rest_of_rules_leads (Some q) true =
        lead_both (SetFilter key id q ∷ []) (LockFilter key id ∷ []) (one None false) (one (Some q) false) (one (Some q) true)
        (set_leads key selector xs ys before behind id to front back no_front no_back None q)
        (lock_leads key selector xs ys before behind id to front back no_front no_back (Some q))

  member_changes_lead : (same : P → P → Bool) → IsTest same → (a b : Member P) (front back : List (Member P)) → Lacks id_of a.id front → Lacks id_of a.id back →
      can_stay same a b ≡ true → (a.id ≡ b.id) × LeadTo (member_changes same key a b) (at (front ++ a ∷ back)) (at (front ++ b ∷ back))
  member_changes_lead same test a b front back no_front no_back can =
      let outer = both_true _ _ can in
      let inner = both_true _ _ outer.1 in
      let id : a.id ≡ b.id = eqb-true a.id b.id outer.0 in
      let to : a.to ≡ b.to = same_endpoint a.to b.to inner.0 in
      let is_b : member_with a.id a.to b.filter b.locked ≡ b = ap (λ it. member_with it a.to b.filter b.locked) id ∙ ap (λ it. member_with b.id it b.filter b.locked) to in (
        id,
        subst (λ it. LeadTo (member_changes same key a b) (at (front ++ a ∷ back)) (at (front ++ it ∷ back))) is_b
            (stay_leads a.id a.to front back no_front no_back same test a.filter b.filter a.locked b.locked inner.1),
      )

  -- ---- members join and leave

  pub rules_lead : (done wanted : List (Member P)) → AreDistinct id_of (done ++ wanted) → length (done ++ wanted) ≤ MEMBER_LIMIT →
      LeadTo (flat_map (λ member. rules_of_member key member) wanted) (at done) (at (done ++ wanted))
  rules_lead done [] distinct limited = ap at (sym (append-nil done))
  rules_lead done (z ∷ wanted) distinct limited =
      let shape : (done ++ z ∷ []) ++ wanted ≡ done ++ z ∷ wanted = append_assoc done (z ∷ []) wanted in
      let apart = distinct_around id_of z done wanted distinct in
      let room : length done < MEMBER_LIMIT = let all = length-append done (z ∷ wanted) in omega arith in
      let joined : LeadTo (rules_of_member key z) (at done) (at (done ++ z ∷ [])) =
      lead_both (Join key z.id z.to ∷ []) (map (λ program. SetFilter key z.id program) (option_to_list z.filter) ++ (if z.locked then LockFilter key z.id ∷ [] else []))
      (at done) (at (done ++ fresh z.id z.to ∷ [])) (at (done ++ z ∷ []))
      (join_leads key selector xs ys before behind z.id z.to done apart.0 room)
      (rest_of_rules_leads z.id z.to done [] apart.0 tt z.filter z.locked) in
      lead_both (rules_of_member key z) (flat_map (λ member. rules_of_member key member) wanted) (at done) (at (done ++ z ∷ [])) (at (done ++ z ∷ wanted)) joined
      (subst (λ it. LeadTo (flat_map (λ member. rules_of_member key member) wanted) (at (done ++ z ∷ [])) (at it)) shape
      (rules_lead (done ++ z ∷ []) wanted (subst (AreDistinct id_of) (sym shape) distinct) (subst (λ it. length it ≤ MEMBER_LIMIT) (sym shape) limited)))

  leaves_lead : (kept gone : List (Member P)) → AreDistinct id_of (kept ++ gone) → LeadTo (map (λ member. Leave key member.id) (reverse gone)) (at (kept ++ gone)) (at kept)
  leaves_lead kept [] distinct = ap at (append-nil kept)
  leaves_lead kept (z ∷ gone) distinct =
      let shape : (kept ++ z ∷ []) ++ gone ≡ kept ++ z ∷ gone = append_assoc kept (z ∷ []) gone in
      let apart = distinct_around id_of z kept gone distinct in
      let order : map (λ member. Leave key member.id) (reverse (z ∷ gone)) ≡ map (λ member. Leave key member.id) (reverse gone) ++ Leave key z.id ∷ [] =
      ap (map (λ member. Leave key member.id)) (reverse-append (z ∷ []) gone) ∙ map-append (λ member. Leave key member.id) (reverse gone) (z ∷ []) in
      subst (λ it. LeadTo it (at (kept ++ z ∷ gone)) (at kept)) (sym order)
      (lead_both (map (λ member. Leave key member.id) (reverse gone)) (Leave key z.id ∷ []) (at (kept ++ z ∷ gone)) (at (kept ++ z ∷ [])) (at kept)
      (subst (λ it. LeadTo (map (λ member. Leave key member.id) (reverse gone)) (at it) (at (kept ++ z ∷ []))) shape
      (leaves_lead (kept ++ z ∷ []) gone (subst (AreDistinct id_of) (sym shape) distinct)))
      (leave_leads key selector xs ys before behind z kept apart.0))

  replaced_lead : (done from to : List (Member P)) → AreDistinct id_of (done ++ from) → AreDistinct id_of (done ++ to) → length (done ++ to) ≤ MEMBER_LIMIT →
      LeadTo (replaced_members key from to) (at (done ++ from)) (at (done ++ to))
  replaced_lead done from to distinct distinct_to limited =
      lead_both (map (λ member. Leave key member.id) (reverse from)) (flat_map (λ member. rules_of_member key member) to) (at (done ++ from)) (at done) (at (done ++ to))
      (leaves_lead done from distinct) (rules_lead done to distinct_to limited)

  -- ---- the members become others

  pub members_lead : (same : P → P → Bool) → IsTest same → (done from to : List (Member P)) → AreDistinct id_of (done ++ from) → AreDistinct id_of (done ++ to) →
      length (done ++ to) ≤ MEMBER_LIMIT → LeadTo (members_changes same key from to) (at (done ++ from)) (at (done ++ to))
  members_lead same test done [] to distinct distinct_to limited = replaced_lead done [] to distinct distinct_to limited
  members_lead same test done (a ∷ from) [] distinct distinct_to limited = replaced_lead done (a ∷ from) [] distinct distinct_to limited
  members_lead same test done (a ∷ from) (b ∷ to) distinct distinct_to limited = elim (cases_Bool (can_stay same a b)) [
    | inl can ↦
        let shape : (done ++ b ∷ []) ++ from ≡ done ++ b ∷ from = append_assoc done (b ∷ []) from in
        let shape_to : (done ++ b ∷ []) ++ to ≡ done ++ b ∷ to = append_assoc done (b ∷ []) to in
        let apart = distinct_around id_of a done from distinct in
        let first = member_changes_lead same test a b done from apart.0 apart.1 can in
        let rest : LeadTo (members_changes same key from to) (at ((done ++ b ∷ []) ++ from)) (at ((done ++ b ∷ []) ++ to)) =
        members_lead same test (done ++ b ∷ []) from to (subst (AreDistinct id_of) (sym shape) (distinct_other id_of a b done from first.0 distinct))
        (subst (AreDistinct id_of) (sym shape_to) distinct_to) (subst (λ it. length it ≤ MEMBER_LIMIT) (sym shape_to) limited) in
        rw can (lead_both (member_changes same key a b) (members_changes same key from to) (at (done ++ a ∷ from)) (at (done ++ b ∷ from)) (at (done ++ b ∷ to)) first.1
        (subst (λ it. LeadTo (members_changes same key from to) (at it) (at (done ++ b ∷ to))) shape
        (subst (λ it. LeadTo (members_changes same key from to) (at ((done ++ b ∷ []) ++ from)) (at it)) shape_to rest)))
    | inr cannot ↦ rw cannot (replaced_lead done (a ∷ from) (b ∷ to) distinct distinct_to limited)
  ]
