-- What the changes of a configuration come to where the group stands, and that they keep it a configuration.
use Rattle.std.proofs.Common.{◌++◌, ◌+◌, ◌-◌, ◌<◌, ◌∙◌, ◌∷◌, ◌≡◌, List, None, [], ap, arith, drop, get_or, inl, inr, length, length-set, refl, set, suc, take, ℕ}
use Rattle.std.specs.Prelude.{nat_lt, not}
use Rattle.std.specs.List.{All, filter, remove}
use Rattle.std.proofs.lemmas.Bool.{cases_lt, le-ltb, lt-ltb, ltb-true}
use Rattle.std.proofs.lemmas.List.{get_or-drop, get_or-take, get_or_default, length-append, length-drop, length-take-le, take_rest}
use Rattle.std.proofs.lemmas.List.Elements.{All-append, All-cons, All-filter, All-set, filter_passes}
use Rattle.std.proofs.lemmas.List.Filters.{length-filter_both}
use Rattle.std.proofs.lemmas.List.Kept.{AllPairs-cons, AllPairs-filter}
use Rattle.bpf_verify.specs.Program.{ProgramValue}
use Rattle.ipv4_fields.specs.declared.endpoint.Endpoint.{Endpoint}
use Rattle.ipv4_fields.specs.Endpoint.{IsEndpoint, endpoint_number}
use Rattle.member_group.specs.declared.TheConstants.{GROUP_LIMIT}
use Rattle.member_group.specs.Command.{with_group, without_group}
use Rattle.member_group.specs.Group.{GroupOf, IsConfig, IsGroup, group_of, has_key}
use Rattle.member_group.specs.Place.{IsGapFor}
use Rattle.member_group.proofs.ListLemmas.{AllPairs-append, AllPairs-set, filter-back, filter-front, find-nowhere}
use Rattle.member_group.proofs.PlaceLemmas.{not_equal}

-- ---- another group of the same key

pub replaced_is_config : (config : List (GroupOf ProgramValue)) (at : ℕ) (group : GroupOf ProgramValue) → IsConfig config → at < length config → (get_or config at group).key ≡ group.key → IsGroup group → IsConfig (set config at group)
replaced_is_config config at group is_config inside same is_group =
    let limit = is_config.limited in
    let here : (d : GroupOf ProgramValue) → endpoint_number (get_or config at d).key ≡ endpoint_number group.key = λ d.
    ap (λ (g : GroupOf ProgramValue). endpoint_number g.key) (get_or_default config at d group inside) ∙ ap endpoint_number same in
    record {
      limited = omega (arith, length-set config at group);
      rising = AllPairs-set (λ (g : GroupOf ProgramValue) other. endpoint_number g.key < endpoint_number other.key) config at group
          (λ k d before below. rw (← here d) (is_config.rising k at d before inside))
          (λ k d behind below. rw (← here d) (is_config.rising at k d behind below))
          is_config.rising;
      groups = All-set IsGroup config at group is_group is_config.groups;
    }

-- ---- a group more

pub with_group-gap : {P : Type 0} (key : Endpoint) (config : List (GroupOf P)) (at : ℕ) → IsGapFor key config at → with_group key config ≡ take at config ++ (record { key = key; selector = None; members = [] } ∷ drop at config)
with_group-gap {P} key config at gap =
    let inside = gap.inside in
    let size : length (take at config) ≡ at = length-take-le at config inside in
    let rest : length (drop at config) ≡ length config - at = length-drop at config in
    let below : filter (λ group. nat_lt (endpoint_number group.key) (endpoint_number key)) config ≡ take at config =
    filter-front (λ group. nat_lt (endpoint_number group.key) (endpoint_number key)) config at
    (λ k d within. rw (get_or-take at config k d (omega arith)) (lt-ltb _ _ (gap.before k d (omega arith))))
    (λ k d within. rw (get_or-drop at config k d) (le-ltb _ _ (let more = gap.behind (at + k) d (omega arith) (omega arith) in omega arith))) in
    let above : filter (λ group. nat_lt (endpoint_number key) (endpoint_number group.key)) config ≡ drop at config =
    filter-back (λ group. nat_lt (endpoint_number key) (endpoint_number group.key)) config at
    (λ k d within. rw (get_or-take at config k d (omega arith)) (le-ltb _ _ (let less = gap.before k d (omega arith) in omega arith)))
    (λ k d within. rw (get_or-drop at config k d) (lt-ltb _ _ (gap.behind (at + k) d (omega arith) (omega arith)))) in
    rw (below, above) refl

pub group_of-gap : {P : Type 0} (key : Endpoint) (config : List (GroupOf P)) (at : ℕ) → IsGapFor key config at → group_of key config ≡ None
group_of-gap key config at gap = find-nowhere (has_key key) config (λ k d within. not_equal _ _ (λ same.
    elim (cases_lt k at) [
      | inl before ↦ let less = gap.before k d before in omega arith
      | inr behind ↦ let more = gap.behind k d behind within in omega arith
    ]))

new_is_group : (key : Endpoint) → IsEndpoint key → IsGroup (record { key = key; selector = None; members = [] })
new_is_group key is_endpoint = record { key = is_endpoint; limited = omega arith; distinct = λ i j d less below. absurd (omega arith); selector = tt; members = λ k d below. absurd (omega arith) }

pub added_is_config : (key : Endpoint) (config : List (GroupOf ProgramValue)) (at : ℕ) → IsEndpoint key → IsConfig config → length config < GROUP_LIMIT → IsGapFor key config at → IsConfig (with_group key config)
added_is_config key config at is_endpoint is_config room gap =
    let inside = gap.inside in
    let below = filter (λ (group : GroupOf ProgramValue). nat_lt (endpoint_number group.key) (endpoint_number key)) config in
    let above = filter (λ (group : GroupOf ProgramValue). nat_lt (endpoint_number key) (endpoint_number group.key)) config in
    let new : GroupOf ProgramValue = record { key = key; selector = None; members = [] } in
    let size : length (with_group key config) ≡ length config + 1 =
    ap length (with_group-gap key config at gap) ∙ length-append (take at config) (new ∷ drop at config)
    ∙ (let front = length-take-le at config inside in let back = length-drop at config in omega arith) in
    let is_below : All (λ (group : GroupOf ProgramValue). endpoint_number group.key < endpoint_number key) below =
    λ k d within. ltb-true _ _ (filter_passes (λ (group : GroupOf ProgramValue). nat_lt (endpoint_number group.key) (endpoint_number key)) config k d within) in
    let is_above : All (λ (group : GroupOf ProgramValue). endpoint_number key < endpoint_number group.key) above =
    λ k d within. ltb-true _ _ (filter_passes (λ (group : GroupOf ProgramValue). nat_lt (endpoint_number key) (endpoint_number group.key)) config k d within) in
    let rises : GroupOf ProgramValue → GroupOf ProgramValue → Type 0 = λ group other. endpoint_number group.key < endpoint_number other.key in
    record {
      limited = omega arith;
      rising = AllPairs-append rises below (new ∷ above) (AllPairs-filter rises _ config is_config.rising)
          (AllPairs-cons rises new above is_above (AllPairs-filter rises _ config is_config.rising))
          (λ k d within. All-cons (rises (get_or below k d)) new above (is_below k d within)
          (λ j e inner. let less = is_below k d within in let more = is_above j e inner in omega arith));
      groups = All-append IsGroup below (new ∷ above) (All-filter _ IsGroup config is_config.groups)
          (All-cons IsGroup new above (new_is_group key is_endpoint) (All-filter _ IsGroup config is_config.groups));
    }

-- ---- a group less

pub removed_is_config : (key : Endpoint) (config : List (GroupOf ProgramValue)) → IsConfig config → IsConfig (without_group key config)
removed_is_config key config is_config =
    let limit = is_config.limited in
    record {
      limited = omega (arith, length-filter_both (λ (group : GroupOf ProgramValue). not (has_key key group)) (λ (group : GroupOf ProgramValue). not (not (has_key key group))) (λ group. refl) config);
      rising = AllPairs-filter (λ (group : GroupOf ProgramValue) other. endpoint_number group.key < endpoint_number other.key) _ config is_config.rising;
      groups = All-filter _ IsGroup config is_config.groups;
    }

-- ---- a configuration in pieces

pub removed_pieces : {X : Type 0} (config : List X) (at : ℕ) (empty front whole : List X) → empty ≡ [] → front ≡ empty ++ take at config → whole ≡ front ++ take (length config - (at + 1)) (drop (at + 1) config) → whole ≡ remove config at
removed_pieces config at empty front whole none first second =
    let start = rw none at first in
    let rest = rw (take_rest config (at + 1)) at second in
    let next : at + 1 ≡ suc at = omega arith in
    rest ∙ ap (λ list. list ++ drop (at + 1) config) start ∙ ap (λ n. take at config ++ drop n config) next
