-- The end of an IPv4 packet (RFC 791, section 3.1).
use Rattle.std.specs.Prelude.{◌≡◌, ◌≤◌, ◌<◌, ◌*◌, ◌++◌, IfSome, List, Some, length, ℕ}
use Rattle.ipv4_fields.specs.Field.{field_of}
use Rattle.ipv4_fields.specs.declared.header.Field.TheVariants.{Ihl, TotalLength, Version}

-- the total length reaches to the end of the header, if both fields are there
abbrev pub ReachesHeader : List ℕ → Type 0
ReachesHeader bytes = IfSome (field_of Ihl bytes) (λ ihl. IfSome (field_of TotalLength bytes) (λ total. 4 * ihl ≤ total))

-- no field that is there speaks against an IPv4 packet: it has the version 4, a header of five and more words, and a total
-- length that is not less
pub record IsIpv4SoFar (bytes : List ℕ) : Type 0 where
  pub version : IfSome (field_of Version bytes) (λ version. version ≡ 4)
  pub ihl : IfSome (field_of Ihl bytes) (λ ihl. 5 ≤ ihl)
  pub total_length : ReachesHeader bytes

-- the bytes begin with a whole packet, which ends at its total length; the bytes after it are padding
pub record BeginsWithPacket (bytes packet : List ℕ) : Type 0 where
  pub is_ipv4 : IsIpv4SoFar bytes
  pub total_length : field_of TotalLength bytes ≡ Some (length packet)
  pub padding : List ℕ
  pub whole : bytes ≡ packet ++ padding

-- the bytes end before the packet does
pub record IsCutPacket (bytes : List ℕ) : Type 0 where
  pub is_ipv4 : IsIpv4SoFar bytes
  pub cut : IfSome (field_of TotalLength bytes) (λ total. length bytes < total)
