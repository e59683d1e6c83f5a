-- The records of a capture file (draft-ietf-opsawg-pcap, section 5).
use Rattle.std.specs.Prelude.{◌≡◌, ◌≤◌, ◌++◌, List, drop, length, ℕ}
use Rattle.packet_capture.specs.declared.order.Order.{Order}
use Rattle.packet_capture.specs.Number.{number_at}

-- the bytes begin with a record, and then comes the rest: a record is a header of 16 bytes, which has the captured packet length
-- at place 8, and this many captured bytes
pub record IsRecord (order : Order) (bytes captured rest : List ℕ) : Type 0 where
  pub complete : 16 ≤ length bytes
  pub captured_length : number_at order 4 bytes 8 ≡ length captured
  pub whole : drop 16 bytes ≡ captured ++ rest

-- the bytes begin with no whole record
abbrev pub HasNoRecord : Order → List ℕ → Type 0
HasNoRecord order bytes = (captured rest : List ℕ) → IsRecord order bytes captured rest → ⊥
