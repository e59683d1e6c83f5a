-- The number of buckets of each member: by the largest remainders (Hamilton's method of apportionment).
use Rattle.std.specs.Prelude.{◌*◌, ◌+◌, ◌-◌, ◌/◌, ◌%◌, ◌<◌, ◌≤◌, if◌then◌else◌, List, count_by, length, map, nat_eq, nat_lt, slice_index, slice_set, suc, sum, zero, ℕ}
use Rattle.selector_buckets.specs.declared.TheConstants.{MEMBER_LIMIT}
use Rattle.selector_buckets.specs.declared.share.Share.{Share}

abbrev pub weights_of : List Share → List ℕ
weights_of shares = map (λ share. share.weight) shares

abbrev pub ids_of : List Share → List ℕ
ids_of shares = map (λ share. share.id) shares

-- a table can be shared by the members: they are not too many, and one of them has a weight above 0
abbrev pub CanShare : List Share → Type 0
CanShare shares = (length shares ≤ MEMBER_LIMIT) × (0 < sum (weights_of shares))

-- the buckets that a member has by its weight alone, rounded down, and what rounding down leaves
abbrev pub whole_share : ℕ → ℕ → ℕ → ℕ
whole_share count total weight = count * weight / total

abbrev pub remainder : ℕ → ℕ → ℕ → ℕ
remainder count total weight = count * weight % total

-- the place of the first of the greatest of the first k numbers
abbrev pub greatest : List ℕ → ℕ → ℕ
greatest numbers zero = 0
greatest numbers (suc k) = if nat_lt (slice_index numbers (greatest numbers k)) (slice_index numbers k) then k else greatest numbers k

-- the buckets of each member, and the remainders that no bucket was given for
pub record Given : Type 0 where
  pub quotas : List ℕ
  pub remainders : List ℕ

-- one bucket more goes to the member with the greatest remainder, of several to the first
unfoldable pub one_more : Given → Given
one_more given =
    let member = greatest given.remainders (length given.remainders) in
    record { quotas = slice_set given.quotas member (slice_index given.quotas member + 1); remainders = slice_set given.remainders member 0 }

unfoldable pub given_more : ℕ → Given → Given
given_more zero given = given
given_more (suc k) given = one_more (given_more k given)

-- the buckets that are given to each member, rounded down
abbrev pub given_whole : List ℕ → ℕ → Given
given_whole weights count =
    record { quotas = map (λ weight. whole_share count (sum weights) weight) weights; remainders = map (λ weight. remainder count (sum weights) weight) weights }

-- the number of buckets of each member, of this many
abbrev pub quotas_of : List ℕ → ℕ → List ℕ
quotas_of weights count =
    let whole = given_whole weights count in (given_more (count - sum whole.quotas) whole).quotas

-- the number of buckets of the table that a member has
abbrev pub share_of : List ℕ → ℕ → ℕ
share_of members member = count_by (λ other. nat_eq other member) members

-- each member's share of the table is less than one bucket from its weight's share
abbrev pub IsShared : List ℕ → List ℕ → Type 0
IsShared weights members =
    (member : ℕ) → member < length weights
    → (share_of members member * sum weights < length members * slice_index weights member + sum weights)
    × (length members * slice_index weights member < share_of members member * sum weights + sum weights)

-- each bucket is a member's
abbrev pub HasMembersOnly : ℕ → List ℕ → Type 0
HasMembersOnly count members = (bucket : ℕ) → bucket < length members → slice_index members bucket < count
