-- Pairs of digits, each of which spells a byte.
use Rattle.std.specs.Prelude.{◌≡◌, ◌+◌, ◌*◌, ◌<◌, List, slice_index, ℕ}
use Rattle.control_line.specs.Packet.{digit_worth}

-- at place k there is a pair of digits, and the byte that they spell
pub record IsPair (digits packet : List ℕ) (k : ℕ) : Type 0 where
  pub high : digit_worth (slice_index digits (2 * k)) < 16
  pub low : digit_worth (slice_index digits (2 * k + 1)) < 16
  pub byte : slice_index packet k ≡ digit_worth (slice_index digits (2 * k)) * 16 + digit_worth (slice_index digits (2 * k + 1))

-- the first n are such pairs
abbrev pub ArePairs : List ℕ → List ℕ → ℕ → Type 0
ArePairs digits packet n = (k : ℕ) → k < n → IsPair digits packet k
