-- The checksum of IPv4 and UDP (RFC 791, section 3.1; RFC 768, "Fields"; RFC 1071, section 1).
use Rattle.std.specs.Prelude.{◌+◌, ◌*◌, ◌/◌, ◌%◌, ◌^◌, ◌∷◌, List, [], ℕ}

-- the one's complement sum of two words of 16 bits: a carry out of the highest bit is added at the lowest
abbrev pub ones_complement_add : ℕ → ℕ → ℕ
ones_complement_add a b = (a + b) % 2 ^ 16 + (a + b) / 2 ^ 16

-- the one's complement sum of the 16-bit words of bytes, the high byte of each first; an odd last byte is padded by a zero byte
abbrev pub ones_complement_sum : List ℕ → ℕ
ones_complement_sum [] = 0
ones_complement_sum (high ∷ []) = high * 256
ones_complement_sum (high ∷ low ∷ bytes) = ones_complement_add (high * 256 + low) (ones_complement_sum bytes)
