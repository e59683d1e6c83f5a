-- The programs that are selectors of a table.
use Rattle.std.specs.Prelude.{◌≡◌, List, ℕ}
use Rattle.selector_buckets.specs.declared.hash.HashBy.{HashBy}
use Rattle.selector_buckets.specs.Buckets.{BucketsValue, IsTable}
use Rattle.selector_buckets.specs.Words.{selector_words}

-- the words are the selector of this table
pub record IsSelectorOf (words : List ℕ) (by : HashBy) (buckets : BucketsValue) : Type 0 where
  pub table : IsTable buckets
  pub written : words ≡ selector_words by buckets

-- words are the selector of one table at most
abbrev pub HasOneTable : Type 0
HasOneTable = (words : List ℕ) (by other : HashBy) (buckets others : BucketsValue) → IsSelectorOf words by buckets → IsSelectorOf words other others → (by ≡ other) × (buckets ≡ others)
