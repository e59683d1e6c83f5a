-- Network prefixes (RFC 4632, section 3.1).
use Rattle.std.specs.Prelude.{◌==◌, ◌≡◌, ◌-◌, ◌/◌, ◌%◌, ◌^◌, ◌≤◌, Bool, ℕ}

-- an address, and the number of its first bits that are the prefix
pub record NetworkPrefix : Type 0 where
  pub address : ℕ
  pub bits : ℕ

-- the prefix has at most 32 bits, and every bit of the address past them is 0
pub record IsPrefix (prefix : NetworkPrefix) : Type 0 where
  pub not_too_long : prefix.bits ≤ 32
  pub no_host_bits : prefix.address % 2 ^ (32 - prefix.bits) ≡ 0

-- whether an address begins with the bits of a prefix
abbrev pub covers : NetworkPrefix → ℕ → Bool
covers prefix address = address / 2 ^ (32 - prefix.bits) == prefix.address / 2 ^ (32 - prefix.bits)
