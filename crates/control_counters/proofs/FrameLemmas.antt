-- How groups and members are added to those that were read.
use Rattle.std.proofs.Common.{◌≡◌, ◌∙◌, ◌+◌, ◌∷◌, ◌++◌, List, Some, [], ap, ap₂, append-nil, append_assoc, length, map, subst, sym, take, ℕ}
use Rattle.std.specs.Prelude.{slice_get}
use Rattle.std.specs.List.{flat_map}
use Rattle.std.proofs.lemmas.Grind.{flat_map-append}
use Rattle.std.proofs.lemmas.List.{map-append}
use Rattle.ipv4_fields.specs.declared.endpoint.Endpoint.{Endpoint}
use Rattle.config_image.specs.Image.{Group}
use Rattle.member_group.specs.Group.{IsConfig, group_of}
use Rattle.control_rules.specs.Shown.{IsGroupAt, IsMemberAt}
use Rattle.control_rules.specs.declared.replies.GroupShown.{GroupShown}
use Rattle.control_rules.specs.declared.replies.MemberShown.{MemberShown}
use Rattle.control_rules.proofs.AddedLemmas.{some_is, take-next, take_whole}
use Rattle.control_rules.proofs.FoundLemmas.{group_at_found}
use Rattle.counter_text.specs.declared.counters.GroupCount.{GroupCount}
use Rattle.counter_text.specs.declared.counters.MemberCount.{MemberCount}
use Rattle.control_counters.specs.Frame.{Seat, key_of, keys_in, keys_of, seat_at, seat_of, seats_in, seats_of, seats_under}
use Rattle.control_counters.specs.body.Framed.{AddsFirstGroups, AddsFirstSeats, AddsGroup, AddsSeats}

-- one more at the end of what was added
grown_by : {X : Type 0} (start mid end front next : List X) → mid ≡ start ++ front → end ≡ mid ++ next → end ≡ start ++ (front ++ next)
grown_by start mid end front next first then = then ∙ ap (λ it. it ++ next) first ∙ append_assoc start front next

module _ (config : List Group) where
  pub seats_begin : (key : Endpoint) (members : ℕ) (rows : List MemberCount) → AddsFirstSeats config key members 0 rows rows
  seats_begin key members rows group found size = sym (append-nil (seats_of rows))

  pub seats_more : (key : Endpoint) (members index : ℕ) (shown : MemberShown) (start rows rows' : List MemberCount) (row : MemberCount) →
      IsMemberAt config key index shown → AddsFirstSeats config key members index start rows → rows' ≡ rows ++ row ∷ [] →
      ◌≡◌ {A = Seat} (seat_of row) (record { key = key; id = shown.id; to = shown.to }) → AddsFirstSeats config key members (index + 1) start rows'
  seats_more key members index shown start rows rows' row it first more seat group found size =
      let groups : it.group ≡ group = some_is it.group group (group_of key config) it.found found in
      let here : slice_get group.members index ≡ Some it.member = subst (λ g. slice_get g.members index ≡ Some it.member) groups it.at in
      let is : ◌≡◌ {A = Seat} (seat_of row) (seat_at key it.member) =
      seat ∙ ap₂ (λ (id : ℕ) (to : Endpoint). let one : Seat = record { key = key; id = id; to = to } in one) it.id it.to in
      let added : seats_of rows' ≡ seats_of rows ++ seat_at key it.member ∷ [] =
      ap seats_of more ∙ map-append seat_of rows (row ∷ []) ∙ ap (λ (one : Seat). seats_of rows ++ one ∷ []) is in
      let next : seats_under key (take (index + 1) group.members) ≡ seats_under key (take index group.members) ++ seat_at key it.member ∷ [] =
      ap (seats_under key) (take-next group.members index it.member here) ∙ map-append (seat_at key) (take index group.members) (it.member ∷ []) in
      grown_by (seats_of start) (seats_of rows) (seats_of rows') (seats_under key (take index group.members)) (seat_at key it.member ∷ []) (first group found size) added
      ∙ ap (λ it. seats_of start ++ it) (sym next)

  pub seats_end : (key : Endpoint) (members count : ℕ) (rows rows' : List MemberCount) → count ≡ members → AddsFirstSeats config key members count rows rows' →
      AddsSeats config key members rows rows'
  seats_end key members count rows rows' all first group found size =
      first group found size ∙ ap (λ it. seats_of rows ++ seats_under key it) (ap (λ n. take n group.members) (all ∙ size) ∙ take_whole group.members)

  pub groups_begin : (groups : List GroupCount) (members : List MemberCount) → AddsFirstGroups config 0 groups groups members members
  groups_begin groups members = record { keys = sym (append-nil (keys_of groups)); seats = sym (append-nil (seats_of members)) }

  pub group_added : IsConfig config → (index : ℕ) (shown : GroupShown) (groups groups' : List GroupCount) (members members' : List MemberCount) (row : GroupCount) →
      IsGroupAt config index shown → groups' ≡ groups ++ row ∷ [] → row.key ≡ shown.key → AddsSeats config shown.key shown.members members members' →
      AddsGroup config index groups groups' members members'
  group_added is index shown groups groups' members members' row it more keyed seats before rows first =
      let found : group_of shown.key config ≡ Some it.group = ap (λ k. group_of k config) it.key ∙ group_at_found config is index it.group it.at in
      let front = take index config in
      let next : take (index + 1) config ≡ front ++ it.group ∷ [] = take-next config index it.group it.at in
      let new_key : keys_of groups' ≡ keys_of groups ++ it.group.key ∷ [] =
      ap keys_of more ∙ map-append key_of groups (row ∷ []) ∙ ap (λ (key : Endpoint). keys_of groups ++ key ∷ []) (keyed ∙ it.key) in
      let new_seats : seats_of members' ≡ seats_of members ++ seats_under it.group.key it.group.members =
      seats it.group found it.members ∙ ap (λ key. seats_of members ++ seats_under key it.group.members) it.key in
      let all_keys : keys_in (take (index + 1) config) ≡ keys_in front ++ it.group.key ∷ [] = ap keys_in next ∙ map-append (λ (g : Group). g.key) front (it.group ∷ []) in
      let all_seats : seats_in (take (index + 1) config) ≡ seats_in front ++ seats_under it.group.key it.group.members =
      ap seats_in next ∙ flat_map-append (λ (g : Group). seats_under g.key g.members) front (it.group ∷ [])
      ∙ ap (λ (last : List Seat). seats_in front ++ last) (append-nil (seats_under it.group.key it.group.members)) in
      record {
        keys = grown_by (keys_of before) (keys_of groups) (keys_of groups') (keys_in front) (it.group.key ∷ []) first.keys new_key
            ∙ ap (λ it. keys_of before ++ it) (sym all_keys);
        seats = grown_by (seats_of rows) (seats_of members) (seats_of members') (seats_in front) (seats_under it.group.key it.group.members) first.seats new_seats
            ∙ ap (λ it. seats_of rows ++ it) (sym all_seats);
      }

  -- all groups, of none before
  pub groups_end : (groups : ℕ) (keys : List GroupCount) (seats : List MemberCount) → groups ≡ length config → AddsFirstGroups config groups [] keys [] seats →
      (keys_of keys ≡ keys_in config) × (seats_of seats ≡ seats_in config)
  groups_end groups keys seats size all =
      let whole : take groups config ≡ config = ap (λ n. take n config) size ∙ take_whole config in
      (all.keys ∙ ap keys_in whole, all.seats ∙ ap seats_in whole)
