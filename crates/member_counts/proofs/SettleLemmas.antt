-- What is left after the keys that a configuration lacks are removed.
use Rattle.std.proofs.Common.{◌==◌, ◌≡◌, ◌*◌, ◌<◌, ◌≤◌, ◌∙◌, ◌++◌, ◌∷◌, ◌||◌, Bool, List, None, Option, Some, [], ap, ap₂, arith, false, length, length-append, lt-ltb, map, not, refl, sym, true, ℕ}
use Rattle.std.proofs.lemmas.Bool.Decides.{Decides-eqb}
use Rattle.std.proofs.lemmas.List.{length-map}
use Rattle.std.proofs.lemmas.List.Elements.{All-head, All-tail}
use Rattle.std.proofs.lemmas.List.Filters.{sum_by-filter_both}
use Rattle.std.proofs.lemmas.List.Folds.{list_any-append}
use Rattle.std.proofs.lemmas.Map.Entries.{length-keys_of, lookup-filter-keys}
use Rattle.std.proofs.lemmas.Map.Made.{is_some-lookup, length-le_from_is_member}
use Rattle.std.specs.List.{All, IsDistinct, filter, list_any}
use Rattle.std.specs.Map.{keys_of}
use Rattle.bpf_verify.specs.Program.{ProgramValue}
use Rattle.ipv4_fields.specs.declared.endpoint.Endpoint.{Endpoint}
use Rattle.member_group.specs.Group.{GroupOf, IsConfig, IsGroup, has_id}
use Rattle.member_group.specs.declared.member.Member.{Member}
use Rattle.member_counts.specs.declared.TheConstants.{KEPT_LIMIT}
use Rattle.member_counts.specs.declared.counts.Counts.{Counts}
use Rattle.member_counts.specs.declared.key.CountKey.{CountKey}
use Rattle.member_counts.specs.Key.{group_has, has, member_key, same_group, same_key}
use Rattle.member_counts.specs.Table.{Conserves, GrowsBy, Table, kept_at, plus_kept, settled, total, without_lacking}
use Rattle.member_counts.proofs.KeyLemmas.{same_from_same_key, same_keys_laws}
use Rattle.member_counts.proofs.SumLemmas.{Bytes, Delivered, Dropped, Kind, NoMembers, SendFailed, of, of-plus_kept-below}

module _ (config : List (GroupOf ProgramValue)) (table : Table) where
  -- a key that the configuration has is as it was
  pub current_kept : (key : CountKey) → has config key ≡ true → kept_at key (without_lacking config table) ≡ kept_at key table
  current_kept key current =
      lookup-filter-keys (same_key key) (has config) true (λ other same. ap (has config) (sym (same_from_same_key key other same)) ∙ current) table.entries

  -- no total changes below 2^64
  grows : (kind : Kind) → GrowsBy (total (of kind) table) 0 (total (of kind) (without_lacking config table))
  grows kind fits =
      let f : CountKey × Counts → ℕ = λ entry. of kind entry.1 in
      let stays : CountKey × Counts → Bool = λ entry. has config entry.0 in
      let goes : CountKey × Counts → Bool = λ entry. not (has config entry.0) in
      let both = sum_by-filter_both stays goes (λ entry. refl) f table.entries in
      let gone = of-plus_kept-below kind table.gone (filter goes table.entries) (omega (arith, both, fits)) in
      omega (arith, both, gone)

  pub conserves : Conserves table [] (without_lacking config table)
  conserves = record {
    delivered = grows Delivered;
    dropped = grows Dropped;
    no_members = grows NoMembers;
    send_failed = grows SendFailed;
    bytes = grows Bytes;
  }

  only_current : (key : CountKey) → list_any (same_key key) (keys_of (without_lacking config table).entries) ≡ true → has config key ≡ true
  only_current key kept = by (has config key) refl
    where
      by : (current : Bool) → has config key ≡ current → has config key ≡ true
      by true is = is
      by false is =
          let none = lookup-filter-keys (same_key key) (has config) false (λ other same. ap (has config) (sym (same_from_same_key key other same)) ∙ is) table.entries in
          let found = is_some-lookup (same_key key) (without_lacking config table).entries in
          cc (kept, none, found)

-- the keys that a configuration has, in a list
abbrev pub group_keys : GroupOf ProgramValue → List CountKey
group_keys group = record { group = group.key; member = None } ∷ map (λ member. member_key group.key member.id) group.members

abbrev pub config_keys : List (GroupOf ProgramValue) → List CountKey
config_keys [] = []
config_keys (group ∷ rest) = group_keys group ++ config_keys rest

or-true : (b : Bool) → (b || true) ≡ true
or-true true = refl
or-true false = refl

member_listed : (group other : Endpoint) (id : ℕ) (members : List (Member ProgramValue)) → same_group group other ≡ true → list_any (has_id id) members ≡ true
    → list_any (same_key (member_key group id)) (map (λ member. member_key other member.id) members) ≡ true
member_listed group other id [] same found = cc
member_listed group other id (member ∷ members) same found = by (member.id == id) refl (member_listed group other id members same)
  where
    by : (here : Bool) → (member.id == id) ≡ here
        → (list_any (has_id id) members ≡ true → list_any (same_key (member_key group id)) (map (λ member. member_key other member.id) members) ≡ true)
        → list_any (same_key (member_key group id)) (map (λ member. member_key other member.id) (member ∷ members)) ≡ true
    by true is after_rest =
        let one : (id == member.id) ≡ true = (Decides-eqb id member.id).1 (sym ((Decides-eqb member.id id).0 is)) in
        rw (same, one) refl
    by false is after_rest =
        let rest : list_any (has_id id) members ≡ true = rw is at found in
        rw (after_rest rest) (or-true _)

group_listed : (key : CountKey) (group : GroupOf ProgramValue) → group_has key group ≡ true → list_any (same_key key) (group_keys group) ≡ true
group_listed key group current = by (same_group key.group group.key) refl key.member refl
  where
    by : (same : Bool) → same_group key.group group.key ≡ same → (member : Option ℕ) → key.member ≡ member → list_any (same_key key) (group_keys group) ≡ true
    by false is member of_key = let never : false ≡ true = rw is at current in cc
    by true is None of_key = rw (is, of_key) refl
    by true is (Some id) of_key =
        let found : list_any (has_id id) group.members ≡ true = rw (is, of_key) at current in
        let listed = member_listed key.group group.key id group.members is found in
        let named : key ≡ member_key key.group id = ap (λ (member : Option ℕ). let named : CountKey = record { group = key.group; member = member } in named) of_key in
        rw (is, of_key) (ap (λ k. list_any (same_key k) (map (λ (member : Member ProgramValue). member_key group.key member.id) group.members)) named ∙ listed)

listed : (config : List (GroupOf ProgramValue)) (key : CountKey) → has config key ≡ true → list_any (same_key key) (config_keys config) ≡ true
listed [] key current = current
listed (group ∷ rest) key current = list_any-append (same_key key) (group_keys group) (config_keys rest) ∙ by (group_has key group) refl (listed rest key)
  where
    by : (here : Bool) → group_has key group ≡ here → (has rest key ≡ true → list_any (same_key key) (config_keys rest) ≡ true)
        → (list_any (same_key key) (group_keys group) || list_any (same_key key) (config_keys rest)) ≡ true
    by true is after_rest = rw (group_listed key group is) refl
    by false is after_rest =
        let later : has rest key ≡ true = rw is at current in
        rw (after_rest later) (or-true _)

length-config_keys : (config : List (GroupOf ProgramValue)) → All IsGroup config → length (config_keys config) ≤ length config * 65
length-config_keys [] groups = omega arith
length-config_keys (group ∷ rest) groups =
    let first = (All-head IsGroup group rest groups).limited in
    let others = length-config_keys rest (All-tail IsGroup group rest groups) in
    let whole = length-append (group_keys group) (config_keys rest) in
    let members = length-map group.members (λ (member : Member ProgramValue). member_key group.key member.id) in
    omega (arith, whole, members, first, others)

-- no more keys are left than the configuration may have
pub limited : (config : List (GroupOf ProgramValue)) (table : Table) → IsConfig config → IsDistinct same_key (keys_of (without_lacking config table).entries)
    → length (without_lacking config table).entries ≤ KEPT_LIMIT
limited config table is distinct =
    let keys = keys_of (without_lacking config table).entries in
    let fits = length-le_from_is_member same_keys_laws keys (config_keys config) distinct (λ key kept. listed config key (only_current config table key kept)) in
    omega (arith, fits, length-config_keys config is.groups, is.limited, length-keys_of (without_lacking config table).entries)

-- what is removed, by the loop and the filter that do it
pub removed : (groups : List (GroupOf ProgramValue)) (old new : List (CountKey × Counts)) (before after : Counts) → new ≡ filter (λ entry. has groups entry.0) old
    → after ≡ plus_kept before (filter (λ entry. not (has groups entry.0)) old)
    → record { entries = new; gone = after } ≡ without_lacking groups (record { entries = old; gone = before })
removed groups old new before after kept gone =
    let table : List (CountKey × Counts) → Counts → Table = λ entries gone. record { entries = entries; gone = gone } in
    ap₂ table kept gone

pub over_limit : (config : List (GroupOf ProgramValue)) (table : Table) → KEPT_LIMIT < length table.entries → settled config table ≡ without_lacking config table
over_limit config table over = rw (lt-ltb KEPT_LIMIT (length table.entries) over) refl
