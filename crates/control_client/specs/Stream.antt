-- The lines that are received of a stream (docs/COMMANDS.md, "tell").
use Rattle.std.specs.Prelude.{◌≡◌, ◌≢◌, ◌<◌, List, [], codes, length, slice_index, take, ℕ}
use Rattle.ipv4_fields.specs.Cut.{Lacks}

-- the first LF of these bytes is here
pub record EndsLineAt (place : ℕ) (bytes : List ℕ) : Type 0 where
  pub within : place < length bytes
  pub is_end : slice_index bytes place ≡ 10
  pub lacks : Lacks 10 (take place bytes)

-- a reply, and what follows it, after which a switch takes the next request
pub record StaysOpen (reply after : List ℕ) : Type 0 where
  pub nothing_more : after ≡ []
  pub is_request : reply ≢ codes "refused C1"
  pub not_long : reply ≢ codes "refused C2"
