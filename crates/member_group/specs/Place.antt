-- The place of a group or a member in its list.
use Rattle.std.specs.Prelude.{◌≡◌, ◌++◌, ◌<◌, ◌+◌, ◌-◌, ◌≢◌, ◌≤◌, if◌then◌else◌, Bool, List, drop, false, length, nat_lt, slice_index_or, slice_range, take, true, ℕ}
use Rattle.std.specs.List.{All}
use Rattle.ipv4_fields.specs.declared.endpoint.Endpoint.{Endpoint}
use Rattle.ipv4_fields.specs.Endpoint.{endpoint_number}
use Rattle.member_group.specs.Group.{GroupOf}

-- the element at a place passes a test, and no other does
pub record IsOnlyAt {X : Type 0} (test : X → Bool) (list : List X) (place : ℕ) : Type 0 where
  pub inside : place < length list
  pub passes : (d : X) → test (slice_index_or list place d) ≡ true
  pub others_fail : (k : ℕ) (d : X) → k < length list → k ≢ place → test (slice_index_or list k d) ≡ false

-- no element passes a test
abbrev pub IsNowhere : {X : Type 0} → (X → Bool) → List X → Type 0
IsNowhere test list = All (λ x. test x ≡ false) list

-- the keys before a place are less than a key, and those from there on are greater
pub record IsGapFor {P : Type 0} (key : Endpoint) (config : List (GroupOf P)) (place : ℕ) : Type 0 where
  pub inside : place ≤ length config
  pub before : (k : ℕ) (d : GroupOf P) → k < place → endpoint_number (slice_index_or config k d).key < endpoint_number key
  pub behind : (k : ℕ) (d : GroupOf P) → place ≤ k → k < length config → endpoint_number key < endpoint_number (slice_index_or config k d).key

-- the last element takes the place of another; if it is the other itself, it goes
abbrev pub last_in_gap : {X : Type 0} → ℕ → List X → List X
last_in_gap at list =
    let last = length list - 1 in
    if nat_lt at last then take at list ++ (drop last list ++ slice_range list (at + 1) last) else take at list
