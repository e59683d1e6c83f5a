-- The member of each bucket: the members take turns, and each takes its next free bucket (Eisenbud et al., NSDI 2016, section
-- 3.4).
use Rattle.std.specs.Prelude.{◌==◌, ◌*◌, ◌+◌, ◌/◌, ◌%◌, ◌^◌, if◌then◌else◌, List, length, nat_lt, replicate, slice_index, slice_set, suc, zero, ℕ}
use Rattle.selector_buckets.specs.declared.TheConstants.{FREE, SKIP_MULTIPLIER}
use Rattle.selector_buckets.specs.Hash.{mixed}
use Rattle.selector_buckets.specs.Shares.{quotas_of}

-- a member's permutation of the buckets begins at its offset, and goes on by its skip, which is odd; both modulo the number of buckets
abbrev pub offset_of : ℕ → ℕ
offset_of id = mixed id / 2 ^ 16

abbrev pub skip_of : ℕ → ℕ
skip_of id = id * SKIP_MULTIPLIER % 2 ^ 32 / 2 ^ 16 * 2 + 1

-- the first free bucket, from one on and at most this many skips away
unfoldable pub free_from : List ℕ → ℕ → ℕ → ℕ → ℕ
free_from table skip zero bucket = bucket
free_from table skip (suc k) bucket =
    if slice_index table bucket == FREE then bucket else free_from table skip k ((bucket + skip) % length table)

abbrev pub next_free : List ℕ → ℕ → ℕ
next_free table id = free_from table (skip_of id) (length table) (offset_of id % length table)

-- a member's turn in a round: it takes a bucket if it has had fewer than it gets
abbrev pub turn : ℕ → ℕ → ℕ → ℕ → List ℕ → List ℕ
turn round quota id member table = if nat_lt round quota then slice_set table (next_free table id) member else table

-- the table after the turns of the first members
unfoldable pub turns : List ℕ → List ℕ → ℕ → ℕ → List ℕ → List ℕ
turns ids quotas round zero table = table
turns ids quotas round (suc k) table = turn round (slice_index quotas k) (slice_index ids k) k (turns ids quotas round k table)

-- the table after this many rounds
unfoldable pub rounds : List ℕ → List ℕ → ℕ → List ℕ → List ℕ
rounds ids quotas zero table = table
rounds ids quotas (suc k) table = turns ids quotas k (length ids) (rounds ids quotas k table)

-- the table of members with these IDs and weights
abbrev pub table_of : List ℕ → List ℕ → ℕ → List ℕ
table_of ids weights count = rounds ids (quotas_of weights count) count (replicate count FREE)
