-- What a contract sees of a table of buckets.
use Rattle.std.specs.Prelude.{◌≡◌, ◌<◌, ◌≤◌, ◌^◌, List, length, slice_index, ℕ}
use Rattle.selector_buckets.specs.declared.TheConstants.{DEPTH_LIMIT}

-- a table: its depth, and the member index of each bucket
pub record BucketsValue : Type 0 where
  pub depth : ℕ
  pub members : List ℕ

-- it has 2^depth buckets, and each index is a byte
pub record IsTable (buckets : BucketsValue) : Type 0 where
  pub limited : buckets.depth ≤ DEPTH_LIMIT
  pub whole : length buckets.members ≡ 2 ^ buckets.depth
  pub bytes : (bucket : ℕ) → slice_index buckets.members bucket < 2 ^ 8
