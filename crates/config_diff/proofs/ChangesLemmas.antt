-- The changes lead from one configuration to another.
use Rattle.std.proofs.Common.{◌++◌, ◌+◌, ◌<◌, ◌≤◌, ◌∙◌, ◌∷◌, ◌≡◌, ◌≢◌, Bool, List, None, Some, [], ap, append_assoc, arith, false, find, inl, inr, length, length-append, refl, subst, sym, true, ℕ}
use Rattle.std.specs.Prelude.{◌==◌, ◌⊎◌, cond, flat_map, is_some}
use Rattle.std.specs.List.{filter}
use Rattle.std.proofs.lemmas.Bool.{cases_Bool, cases_order, eq-eqb, eqb-true, true≢false}
use Rattle.ipv4_fields.specs.declared.endpoint.Endpoint.{Endpoint}
use Rattle.ipv4_fields.specs.Endpoint.{IsEndpoint, endpoint_number}
use Rattle.member_group.specs.declared.TheConstants.{GROUP_LIMIT}
use Rattle.member_group.specs.declared.command.Command.{Command}
use Rattle.member_group.specs.Group.{GroupOf, group_of}
use Rattle.member_group.specs.Refusal.{in_group}
use Rattle.config_diff.specs.Lead.{LeadTo}
use Rattle.config_diff.specs.Rules.{RulesLeadToTheirConfig, commands_of, rules_of_group}
use Rattle.config_diff.specs.body.Changes.{changes, group_changes, removal}
use Rattle.config_diff.proofs.GroupsLemmas.{add_lead, group_lead}
use Rattle.config_diff.proofs.LeadLemmas.{lead_both}
use Rattle.config_diff.proofs.MembersLemmas.{IsTest, endpoint_of_parts}
use Rattle.config_diff.proofs.NumberedLemmas.{AreAbove, IsRising, above_lower, apart_test, find_at, find_nothing, lacks_above, lacks_below, rising_around, rising_with, rising_without, without_at}
use Rattle.config_diff.proofs.ShapeLemmas.{AreShaped, IsShaped, shaped_config}
use Rattle.config_diff.proofs.StepLemmas.{key_number}

same_key : (a b : Endpoint) → IsEndpoint a → IsEndpoint b → endpoint_number a ≡ endpoint_number b → a ≡ b
same_key a b a_fits b_fits same =
    let a_port = a_fits.port in
    let b_port = b_fits.port in
    let address : a.address ≡ b.address = omega arith in
    let port : a.port ≡ b.port = omega arith in
    endpoint_of_parts address port

-- look-ups go by the number of a key
pub found_by_number : {P : Type 0} (a b : Endpoint) (config : List (GroupOf P)) → endpoint_number a ≡ endpoint_number b → group_of a config ≡ group_of b config
found_by_number a b config same = ap (λ n. find (λ group. endpoint_number group.key == n) config) same

found_first : {P : Type 0} (key : Endpoint) (group : GroupOf P) (config : List (GroupOf P)) → key_number group ≡ endpoint_number key → group_of key (group ∷ config) ≡ Some group
found_first key group config same = ap (λ b. cond b (Some group) (group_of key config)) (eq-eqb (key_number group) (endpoint_number key) same)

found_later : {P : Type 0} (key : Endpoint) (group : GroupOf P) (config : List (GroupOf P)) → key_number group ≢ endpoint_number key → group_of key (group ∷ config) ≡ group_of key config
found_later key group config apart = ap (λ b. cond b (Some group) (group_of key config)) (apart_test (key_number group) (endpoint_number key) apart)

-- each group has its key in a configuration
abbrev pub AllIn : {P : Type 0} → List (GroupOf P) → List (GroupOf P) → Type 0
AllIn config [] = Unit {0}
AllIn config (group ∷ groups) = (is_some (group_of group.key config) ≡ true) × AllIn config groups

-- ---- groups that are not wanted

abbrev kept : {P : Type 0} → List (GroupOf P) → List (GroupOf P) → List (GroupOf P)
kept to from = filter (λ group. is_some (group_of group.key to)) from

removals_lead : {P : Type 0} (to done from : List (GroupOf P)) → IsRising key_number (done ++ from) → LeadTo (flat_map (λ group. removal to group) from) (done ++ from) (done ++ kept to from)
removals_lead to done [] rising = refl
removals_lead {P} to done (group ∷ from) rising = elim (cases_Bool (is_some (group_of group.key to))) [
  | inl wanted ↦
      let shape : (done ++ group ∷ []) ++ from ≡ done ++ group ∷ from = append_assoc done (group ∷ []) from in
      let shape_kept : (done ++ group ∷ []) ++ kept to from ≡ done ++ group ∷ kept to from = append_assoc done (group ∷ []) (kept to from) in
      let rest : LeadTo (flat_map (λ group. removal to group) from) ((done ++ group ∷ []) ++ from) ((done ++ group ∷ []) ++ kept to from) =
      removals_lead to (done ++ group ∷ []) from (subst (IsRising key_number) (sym shape) rising) in
      rw wanted (rw (← shape, ← shape_kept) rest)
  | inr unwanted ↦
      let around = rising_around key_number group done from rising in
      let before = lacks_below key_number (key_number group) done around.0 in
      let behind = lacks_above key_number (key_number group) from around.1 in
      rw unwanted (
        ap (in_group (λ group. [])) (find_at key_number group done from before),
        subst (λ it. LeadTo (flat_map (λ group. removal to group) from) it (done ++ kept to from)) (sym (without_at key_number group done from before behind))
            (removals_lead to done from (rising_without key_number group done from rising)),
      )
]

kept_above : {P : Type 0} (n : ℕ) (to from : List (GroupOf P)) → AreAbove key_number n from → AreAbove key_number n (kept to from)
kept_above n to [] above = tt
kept_above n to (group ∷ from) above = elim (cases_Bool (is_some (group_of group.key to))) [
  | inl wanted ↦ rw wanted (above.0, kept_above n to from above.1)
  | inr unwanted ↦ rw unwanted (kept_above n to from above.1)
]

kept_rising : {P : Type 0} (to from : List (GroupOf P)) → IsRising key_number from → IsRising key_number (kept to from)
kept_rising to [] rising = tt
kept_rising to (group ∷ from) rising = elim (cases_Bool (is_some (group_of group.key to))) [
  | inl wanted ↦ rw wanted (kept_above (key_number group) to from rising.0, kept_rising to from rising.1)
  | inr unwanted ↦ rw unwanted (kept_rising to from rising.1)
]

kept_shaped : {P : Type 0} (to from : List (GroupOf P)) → AreShaped from → AreShaped (kept to from)
kept_shaped to [] shaped = tt
kept_shaped to (group ∷ from) shaped = elim (cases_Bool (is_some (group_of group.key to))) [
  | inl wanted ↦ rw wanted (shaped.0, kept_shaped to from shaped.1)
  | inr unwanted ↦ rw unwanted (kept_shaped to from shaped.1)
]

kept_in : {P : Type 0} (to from : List (GroupOf P)) → AllIn to (kept to from)
kept_in to [] = tt
kept_in to (group ∷ from) = elim (cases_Bool (is_some (group_of group.key to))) [
  | inl wanted ↦ rw wanted (wanted, kept_in to from)
  | inr unwanted ↦ rw unwanted (kept_in to from)
]

-- what is wanted is found in what is kept as before
kept_found : {P : Type 0} (key : Endpoint) (to from : List (GroupOf P)) → is_some (group_of key to) ≡ true → group_of key (kept to from) ≡ group_of key from
kept_found key to [] wanted = refl
kept_found key to (group ∷ from) wanted = elim (cases_Bool (is_some (group_of group.key to))) [
  | inl stays ↦ elim (cases_Bool (key_number group == endpoint_number key)) [
    | inl here ↦ rw (stays, here) refl
    | inr elsewhere ↦ rw (stays, elsewhere) (kept_found key to from wanted)
  ]
  | inr goes ↦ elim (cases_Bool (key_number group == endpoint_number key)) [
    | inl here ↦
        let same : group_of group.key to ≡ group_of key to = found_by_number group.key key to (eqb-true _ _ here) in
        absurd (true≢false (sym wanted ∙ sym (ap is_some same) ∙ goes))
    | inr elsewhere ↦ rw (goes, elsewhere) (kept_found key to from wanted)
  ]
]

-- ---- groups among groups, both in rising order

all_in_more : {P : Type 0} (group : GroupOf P) (config groups : List (GroupOf P)) → AllIn config groups → AllIn (group ∷ config) groups
all_in_more group config [] all = tt
all_in_more group config (one ∷ groups) all = (
  elim (cases_Bool (key_number group == key_number one)) [ inl here ↦ rw here refl | inr elsewhere ↦ rw elsewhere all.0 ],
  all_in_more group config groups all.1,
)

pub all_in_itself : {P : Type 0} (config : List (GroupOf P)) → AllIn config config
all_in_itself [] = tt
all_in_itself (group ∷ config) = (ap is_some (found_first group.key group config refl), all_in_more group config config (all_in_itself config))

all_in_rest : {P : Type 0} (group : GroupOf P) (config groups : List (GroupOf P)) → AreAbove key_number (key_number group) groups → AllIn (group ∷ config) groups → AllIn config groups
all_in_rest group config [] above all = tt
all_in_rest group config (one ∷ groups) above all =
    let less = above.0 in
    (sym (ap is_some (found_later one.key group config (λ same. omega arith))) ∙ all.0, all_in_rest group config groups above.1 all.1)

-- the first of some groups is the first one wanted, or it is above that
first_of_both : {P : Type 0} (one : GroupOf P) (mid : List (GroupOf P)) (wanted : GroupOf P) (to : List (GroupOf P)) → IsRising key_number (one ∷ mid) → IsRising key_number (wanted ∷ to) → AllIn (wanted ∷ to) (one ∷ mid) →
    ((key_number one ≡ key_number wanted) × AllIn to mid) ⊎ (AreAbove key_number (key_number wanted) (one ∷ mid) × AllIn to (one ∷ mid))
first_of_both one mid wanted to rising rising_to all = elim (cases_order (key_number one) (key_number wanted)) [
  | inl same ↦ inl (same, all_in_rest wanted to mid (subst (λ n. AreAbove key_number n mid) same rising.0) all.1)
  | inr (inl less) ↦
      let nothing : group_of one.key (wanted ∷ to) ≡ None =
      find_nothing key_number (key_number one) (wanted ∷ to) (lacks_above key_number (key_number one) (wanted ∷ to) (less, above_lower key_number (key_number one) (key_number wanted) to less rising_to.0)) in
      absurd (true≢false (sym all.0 ∙ ap is_some nothing))
  | inr (inr more) ↦
      let above : AreAbove key_number (key_number wanted) (one ∷ mid) = (more, above_lower key_number (key_number wanted) (key_number one) mid more rising.0) in
      inr (above, all_in_rest wanted to (one ∷ mid) above all)
]

pub no_more : {P : Type 0} (mid to : List (GroupOf P)) → IsRising key_number mid → IsRising key_number to → AllIn to mid → length mid ≤ length to
no_more [] to rising rising_to all = omega arith
no_more (one ∷ mid) [] rising rising_to all = absurd (true≢false (sym all.0))
no_more (one ∷ mid) (wanted ∷ to) rising rising_to all = elim (first_of_both one mid wanted to rising rising_to all) [
  | inl both ↦ let fewer = no_more mid to rising.1 rising_to.1 both.1 in omega arith
  | inr later ↦ let fewer = no_more (one ∷ mid) to rising rising_to.1 later.1 in omega arith
]

-- ---- groups that are wanted

abbrev additions : {P : Type 0} → (P → P → Bool) → List (GroupOf P) → List (GroupOf P) → List (Command P)
additions same from to = flat_map (λ group. group_changes same (group_of group.key from) group) to

additions_kept : {P : Type 0} (same : P → P → Bool) (wanted from to : List (GroupOf P)) → AllIn wanted to → additions same (kept wanted from) to ≡ additions same from to
additions_kept same wanted from [] all = refl
additions_kept same wanted from (group ∷ to) all =
    ap (λ found. group_changes same found group ++ additions same (kept wanted from) to) (kept_found group.key wanted from all.0)
    ∙ ap (λ rest. group_changes same (group_of group.key from) group ++ rest) (additions_kept same wanted from to all.1)

additions_above : {P : Type 0} (same : P → P → Bool) (one : GroupOf P) (mid to : List (GroupOf P)) → AreAbove key_number (key_number one) to → additions same (one ∷ mid) to ≡ additions same mid to
additions_above same one mid [] above = refl
additions_above same one mid (group ∷ to) above =
    let less = above.0 in
    ap (λ found. group_changes same found group ++ additions same (one ∷ mid) to) (found_later group.key one mid (λ equal. omega arith))
    ∙ ap (λ rest. group_changes same (group_of group.key mid) group ++ rest) (additions_above same one mid to above.1)

module _ {P : Type 0} (same : P → P → Bool) (test : IsTest same) where
  additions_lead : (done mid to : List (GroupOf P)) → IsRising key_number (done ++ mid) → IsRising key_number (done ++ to) → IsRising key_number mid → IsRising key_number to → AreShaped mid → AreShaped to → AllIn to mid →
      length (done ++ to) ≤ GROUP_LIMIT → LeadTo (additions same mid to) (done ++ mid) (done ++ to)
  additions_lead done [] [] rising rising_to mid_rising to_rising shaped shaped_to all limited = refl
  additions_lead done (one ∷ mid) [] rising rising_to mid_rising to_rising shaped shaped_to all limited = absurd (true≢false (sym all.0))
  additions_lead done [] (wanted ∷ to) rising rising_to mid_rising to_rising shaped shaped_to all limited =
      let shape : (done ++ wanted ∷ []) ++ [] ≡ done ++ wanted ∷ [] = append_assoc done (wanted ∷ []) [] in
      let shape_to : (done ++ wanted ∷ []) ++ to ≡ done ++ wanted ∷ to = append_assoc done (wanted ∷ []) to in
      let around = rising_around key_number wanted done to rising_to in
      let room : length (done ++ []) < GROUP_LIMIT = let some = length-append done (wanted ∷ to) in let few : length (done ++ []) ≡ length done + 0 = length-append done [] in omega arith in
      lead_both (rules_of_group wanted) (additions same [] to) (done ++ []) (done ++ wanted ∷ []) (done ++ wanted ∷ to)
      (add_lead done [] wanted shaped_to.0 around.0 tt room)
      (rw (← shape, ← shape_to) (additions_lead (done ++ wanted ∷ []) [] to
      (subst (IsRising key_number) (sym shape) (rising_with key_number wanted done [] rising around.0 tt)) (subst (IsRising key_number) (sym shape_to) rising_to)
      tt to_rising.1 tt shaped_to.1 tt (subst (λ it. length it ≤ GROUP_LIMIT) (sym shape_to) limited)))
  additions_lead done (one ∷ mid) (wanted ∷ to) rising rising_to mid_rising to_rising shaped shaped_to all limited =
      let shape_to : (done ++ wanted ∷ []) ++ to ≡ done ++ wanted ∷ to = append_assoc done (wanted ∷ []) to in
      let around = rising_around key_number one done mid rising in
      let around_to = rising_around key_number wanted done to rising_to in
      elim (first_of_both one mid wanted to mid_rising to_rising all) [
        | inl both ↦
            let shape : (done ++ wanted ∷ []) ++ mid ≡ done ++ wanted ∷ mid = append_assoc done (wanted ∷ []) mid in
            let key : one.key ≡ wanted.key = same_key one.key wanted.key shaped.0.key shaped_to.0.key both.0 in
            let here : additions same (one ∷ mid) (wanted ∷ to) ≡ group_changes same (Some one) wanted ++ additions same mid to =
            ap (λ found. group_changes same found wanted ++ additions same (one ∷ mid) to) (found_first wanted.key one mid both.0)
            ∙ ap (λ rest. group_changes same (Some one) wanted ++ rest) (additions_above same one mid to (subst (λ n. AreAbove key_number n to) (sym both.0) to_rising.0)) in
            let above : AreAbove key_number (key_number wanted) mid = subst (λ n. AreAbove key_number n mid) both.0 around.1 in
            subst (λ commands. LeadTo commands (done ++ one ∷ mid) (done ++ wanted ∷ to)) (sym here)
            (lead_both (group_changes same (Some one) wanted) (additions same mid to) (done ++ one ∷ mid) (done ++ wanted ∷ mid) (done ++ wanted ∷ to)
            (group_lead done mid wanted shaped_to.0 (lacks_below key_number (key_number wanted) done around_to.0) (lacks_above key_number (key_number wanted) mid above) same test one shaped.0 key)
            (rw (← shape, ← shape_to) (additions_lead (done ++ wanted ∷ []) mid to
            (subst (IsRising key_number) (sym shape) (rising_with key_number wanted done mid (rising_without key_number one done mid rising) around_to.0 above)) (subst (IsRising key_number) (sym shape_to) rising_to)
            mid_rising.1 to_rising.1 shaped.1 shaped_to.1 both.1 (subst (λ it. length it ≤ GROUP_LIMIT) (sym shape_to) limited))))
        | inr later ↦
            let shape : (done ++ wanted ∷ []) ++ one ∷ mid ≡ done ++ wanted ∷ one ∷ mid = append_assoc done (wanted ∷ []) (one ∷ mid) in
            let room : length (done ++ one ∷ mid) < GROUP_LIMIT =
            let some = length-append done (wanted ∷ to) in
            let few = length-append done (one ∷ mid) in
            let fewer = no_more (one ∷ mid) to mid_rising to_rising.1 later.1 in
            omega arith in
            let here : additions same (one ∷ mid) (wanted ∷ to) ≡ rules_of_group wanted ++ additions same (one ∷ mid) to =
            ap (λ found. group_changes same found wanted ++ additions same (one ∷ mid) to)
            (find_nothing key_number (key_number wanted) (one ∷ mid) (lacks_above key_number (key_number wanted) (one ∷ mid) later.0)) in
            subst (λ commands. LeadTo commands (done ++ one ∷ mid) (done ++ wanted ∷ to)) (sym here)
            (lead_both (rules_of_group wanted) (additions same (one ∷ mid) to) (done ++ one ∷ mid) (done ++ wanted ∷ one ∷ mid) (done ++ wanted ∷ to)
            (add_lead done (one ∷ mid) wanted shaped_to.0 around_to.0 later.0 room)
            (rw (← shape, ← shape_to) (additions_lead (done ++ wanted ∷ []) (one ∷ mid) to
            (subst (IsRising key_number) (sym shape) (rising_with key_number wanted done (one ∷ mid) rising around_to.0 later.0)) (subst (IsRising key_number) (sym shape_to) rising_to)
            mid_rising to_rising.1 shaped shaped_to.1 later.1 (subst (λ it. length it ≤ GROUP_LIMIT) (sym shape_to) limited))))
      ]

  -- the law
  pub changes_lead : (from to : List (GroupOf P)) → IsShaped from → IsShaped to → LeadTo (changes same from to) from to
  changes_lead from to shaped shaped_to =
      let rising = kept_rising to from shaped.rising in
      lead_both (flat_map (λ group. removal to group) from) (additions same from to) from (kept to from) to
      (removals_lead to [] from shaped.rising)
      (subst (λ commands. LeadTo commands (kept to from) to) (additions_kept same to from to (all_in_itself to))
      (additions_lead [] (kept to from) to rising shaped_to.rising rising shaped_to.rising (kept_shaped to from shaped.groups) shaped_to.groups (kept_in to from) shaped_to.limited))

-- the rules of a configuration lead from nothing to it, over programs of any kind
pub rules_lead : {P : Type 0} (config : List (GroupOf P)) → IsShaped config → LeadTo (commands_of config) [] config
rules_lead {P} config shaped =
    let none : IsShaped {P = P} [] = record { limited = omega arith; rising = tt; groups = tt } in
    changes_lead (λ p q. false) (λ p q is. absurd (true≢false (sym is))) [] config none shaped

pub config_rules_lead : RulesLeadToTheirConfig
config_rules_lead config is_config = rules_lead config (shaped_config config is_config)
