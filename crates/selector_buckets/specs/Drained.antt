-- The table after a member has left: its buckets go to the members that have fewest, and each index is the one that `leave` makes.
use Rattle.std.specs.Prelude.{◌≡◌, ◌≢◌, ◌==◌, ◌&&◌, ◌⊎◌, ◌+◌, ◌-◌, ◌<◌, ◌≤◌, ◌∷◌, [], if◌then◌else◌, List, length, map, nat_lt, not, slice_index, slice_set, suc, zero, ℕ}
use Rattle.selector_buckets.specs.declared.TheConstants.{MEMBER_LIMIT}
use Rattle.selector_buckets.specs.Shares.{HasMembersOnly, share_of}

-- of `count` members the one at this index can hand over its buckets: there are others, and each bucket is a member's
abbrev pub CanDrain : ℕ → ℕ → List ℕ → Type 0
CanDrain count gone members = (2 ≤ count) × (gone < count) × (count ≤ MEMBER_LIMIT) × HasMembersOnly count members

-- the first member beside the one that leaves
abbrev pub first_other : ℕ → ℕ
first_other gone = if gone == 0 then 1 else 0

-- of two members the one that has fewer buckets, of equals the first; the one that leaves does not count
abbrev pub fewer : List ℕ → ℕ → ℕ → ℕ → ℕ
fewer members gone taker other =
    if not (other == gone) && nat_lt (share_of members other) (share_of members taker) then other else taker

-- of the first k members, without the one that leaves, the first that has fewest buckets
abbrev pub fewest : List ℕ → ℕ → ℕ → ℕ
fewest members gone zero = first_other gone
fewest members gone (suc k) = fewer members gone (fewest members gone k) k

-- a bucket of the one that leaves goes to the member that has fewest
abbrev pub hand_over : ℕ → ℕ → ℕ → List ℕ → List ℕ
hand_over count gone bucket members =
    if slice_index members bucket == gone then slice_set members bucket (fewest members gone count) else members

-- the first k buckets are looked at, one after the other
unfoldable pub handed_over : ℕ → ℕ → ℕ → List ℕ → List ℕ
handed_over count gone zero members = members
handed_over count gone (suc k) members = hand_over count gone k (handed_over count gone k members)

-- the index of a member after the other one has left: the last member fills the gap
abbrev pub index_after : ℕ → ℕ → ℕ → ℕ
index_after count gone member = if member == count - 1 then gone else member

-- the whole table afterwards
abbrev pub drained : ℕ → ℕ → List ℕ → List ℕ
drained count gone members = map (index_after count gone) (handed_over count gone (length members) members)

-- ---- its properties

-- no bucket of another member moves
abbrev pub OthersStay : ℕ → ℕ → List ℕ → List ℕ → Type 0
OthersStay count gone before after =
    (bucket : ℕ) → bucket < length before → slice_index before bucket ≢ gone
    → slice_index after bucket ≡ index_after count gone (slice_index before bucket)

-- each bucket of the one that left is another member's
abbrev pub AllAreTaken : ℕ → ℕ → List ℕ → List ℕ → Type 0
AllAreTaken count gone before after =
    (bucket : ℕ) → bucket < length before → slice_index before bucket ≡ gone
    → (taker : ℕ) × (taker < count) × (taker ≢ gone) × (slice_index after bucket ≡ index_after count gone taker)

-- the number of buckets of the one that left that have this index afterwards
abbrev pub taken_by : ℕ → ℕ → List ℕ → List ℕ → ℕ
taken_by gone index (before ∷ others) (after ∷ rest) = (if (before == gone) && (after == index) then 1 else 0) + taken_by gone index others rest
taken_by gone index [] after = 0
taken_by gone index (before ∷ others) [] = 0

-- each other member has its buckets, and those that it took
abbrev pub SharesGrow : ℕ → ℕ → List ℕ → List ℕ → Type 0
SharesGrow count gone before after =
    (member : ℕ) → member < count → member ≢ gone
    → share_of after (index_after count gone member) ≡ share_of before member + taken_by gone (index_after count gone member) before after

-- a member that took a bucket has at most one more than any other member
abbrev pub GoToTheFewest : ℕ → ℕ → List ℕ → List ℕ → Type 0
GoToTheFewest count gone before after =
    (member other : ℕ) → member < count → other < count → member ≢ gone → other ≢ gone
    → (share_of after (index_after count gone member) ≡ share_of before member)
    ⊎ (share_of after (index_after count gone member) ≤ share_of after (index_after count gone other) + 1)
