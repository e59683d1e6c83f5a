-- A group becomes another one of its key, or is added.
use Rattle.std.proofs.Common.{◌++◌, ◌<◌, ◌∙◌, ◌∷◌, ◌≡◌, Bool, List, None, Some, [], ap, inl, inr, length, map, refl, subst, sym}
use Rattle.std.specs.Prelude.{Option, flat_map, is_some, nat_le, option_to_list}
use Rattle.std.proofs.lemmas.Bool.{cases_Bool, lt-leb, true≢false}
use Rattle.ipv4_fields.specs.declared.endpoint.Endpoint.{Endpoint}
use Rattle.ipv4_fields.specs.Endpoint.{endpoint_number}
use Rattle.member_group.specs.declared.TheConstants.{GROUP_LIMIT}
use Rattle.member_group.specs.declared.command.Command.TheVariants.{AddGroup, ClearSelector, SetSelector}
use Rattle.member_group.specs.declared.member.Member.{Member}
use Rattle.member_group.specs.declared.refusal.Refusal.TheVariants.{GroupExists, TooManyGroups}
use Rattle.member_group.specs.Command.{with_selector}
use Rattle.member_group.specs.Group.{GroupOf}
use Rattle.member_group.specs.Refusal.{clear_selector_causes, first_of, in_group}
use Rattle.config_diff.specs.Lead.{LeadTo}
use Rattle.config_diff.specs.Rules.{rules_of_group, rules_of_member}
use Rattle.config_diff.specs.body.Changes.{group_changes, is_same_option, members_changes, selector_changes, set_or_clear}
use Rattle.config_diff.proofs.LeadLemmas.{lead_both}
use Rattle.config_diff.proofs.MembersLemmas.{IsTest, members_lead, rules_lead, same_option}
use Rattle.config_diff.proofs.NumberedLemmas.{AreAbove, AreBelow, Lacks, find_nothing, lacks_above, lacks_below, lacks_both, with_at}
use Rattle.config_diff.proofs.ShapeLemmas.{IsShapedGroup}
use Rattle.config_diff.proofs.StepLemmas.{changed, found, group_with, key_number}

module _ {P : Type 0} (key : Endpoint) (members : List (Member P)) (xs ys : List (GroupOf P)) (before : Lacks key_number (endpoint_number key) xs) (behind : Lacks key_number (endpoint_number key) ys) where
  abbrev selected : Option P → List (GroupOf P)
  selected selector = xs ++ group_with key selector members ∷ ys

  set_selector_leads : (old : Option P) (new : P) → LeadTo (SetSelector key new ∷ []) (selected old) (selected (Some new))
  set_selector_leads old new =
      let group : GroupOf P = group_with key old members in
      (ap (in_group (λ group. [])) (found group xs ys before behind), changed group xs ys before behind (with_selector (Some new)))

  clear_selector_leads : (old : P) → LeadTo (ClearSelector key ∷ []) (selected (Some old)) (selected None)
  clear_selector_leads old =
      let group : GroupOf P = group_with key (Some old) members in
      (ap (in_group clear_selector_causes) (found group xs ys before behind), changed group xs ys before behind (with_selector None))

  set_or_clear_leads : (old new : Option P) → (old ≡ None → new ≡ None → ⊥) →
      LeadTo (set_or_clear (λ program. SetSelector key program) (ClearSelector key) new) (selected old) (selected new)
  set_or_clear_leads old (Some q) some = set_selector_leads old q
  set_or_clear_leads (Some p) None some = clear_selector_leads p
  set_or_clear_leads None None some = absurd (some refl refl)

  selector_lead : (same : P → P → Bool) → IsTest same → (old new : Option P) → LeadTo (selector_changes same key old new) (selected old) (selected new)
  selector_lead same test old new = elim (cases_Bool (is_same_option same old new)) [
    | inl is ↦ rw is (ap selected (same_option same test old new is))
    | inr differs ↦ rw differs (set_or_clear_leads old new (λ no_old no_new. true≢false (rw (no_old, no_new) at differs)))
  ]

  selector_rules_lead : (new : Option P) → LeadTo (map (λ program. SetSelector key program) (option_to_list new)) (selected None) (selected new)
  selector_rules_lead None = refl
  selector_rules_lead (Some q) = set_selector_leads None q

module _ {P : Type 0} (xs ys : List (GroupOf P)) (wanted : GroupOf P) (shaped : IsShapedGroup wanted) (before : Lacks key_number (key_number wanted) xs) (behind : Lacks key_number (key_number wanted) ys) where
  -- a group of the same key is there
  pub group_lead : (same : P → P → Bool) → IsTest same → (one : GroupOf P) → IsShapedGroup one → one.key ≡ wanted.key →
      LeadTo (group_changes same (Some one) wanted) (xs ++ one ∷ ys) (xs ++ wanted ∷ ys)
  group_lead same test one one_shaped same_key =
      let is_one : group_with wanted.key one.selector one.members ≡ one = ap (λ key. group_with key one.selector one.members) (sym same_key) in
      subst (λ it. LeadTo (group_changes same (Some one) wanted) (xs ++ it ∷ ys) (xs ++ wanted ∷ ys)) is_one
      (lead_both (selector_changes same wanted.key one.selector wanted.selector) (members_changes same wanted.key one.members wanted.members)
      (xs ++ group_with wanted.key one.selector one.members ∷ ys) (xs ++ group_with wanted.key wanted.selector one.members ∷ ys) (xs ++ wanted ∷ ys)
      (selector_lead wanted.key one.members xs ys before behind same test one.selector wanted.selector)
      (members_lead wanted.key wanted.selector xs ys before behind same test [] one.members wanted.members one_shaped.distinct shaped.distinct shaped.limited))

pub add_lead : {P : Type 0} (xs ys : List (GroupOf P)) (wanted : GroupOf P) → IsShapedGroup wanted → AreBelow key_number (key_number wanted) xs → AreAbove key_number (key_number wanted) ys →
    length (xs ++ ys) < GROUP_LIMIT → LeadTo (rules_of_group wanted) (xs ++ ys) (xs ++ wanted ∷ ys)
add_lead {P} xs ys wanted shaped below above room =
    let empty : GroupOf P = group_with wanted.key None [] in
    let before = lacks_below key_number (key_number wanted) xs below in
    let behind = lacks_above key_number (key_number wanted) ys above in
    lead_both (AddGroup wanted.key ∷ []) (map (λ program. SetSelector wanted.key program) (option_to_list wanted.selector) ++ flat_map (λ member. rules_of_member wanted.key member) wanted.members)
    (xs ++ ys) (xs ++ empty ∷ ys) (xs ++ wanted ∷ ys) (
      ap (λ there. first_of ((is_some there, GroupExists) ∷ (nat_le GROUP_LIMIT (length (xs ++ ys)), TooManyGroups) ∷ []))
          (find_nothing key_number (key_number wanted) (xs ++ ys) (lacks_both key_number (key_number wanted) xs ys before behind))
          ∙ ap (λ full. first_of ((full, TooManyGroups) ∷ [])) (lt-leb GROUP_LIMIT (length (xs ++ ys)) room),
      with_at key_number empty xs ys below above,
    )
    (lead_both (map (λ program. SetSelector wanted.key program) (option_to_list wanted.selector)) (flat_map (λ member. rules_of_member wanted.key member) wanted.members)
    (xs ++ empty ∷ ys) (xs ++ group_with wanted.key wanted.selector [] ∷ ys) (xs ++ wanted ∷ ys)
    (selector_rules_lead wanted.key [] xs ys before behind wanted.selector)
    (rules_lead wanted.key wanted.selector xs ys before behind [] wanted.members shaped.distinct shaped.limited))
