-- The flag and the offset of a fragment stand side by side in bytes 6 and 7.
use Rattle.std.proofs.Common.{◌≡◌, ◌∙◌, ◌+◌, ◌*◌, ◌-◌, ◌/◌, ◌%◌, ◌≤◌, ◌<◌, Fits, List, arith, bit_and, drop, length, rules, slice_index, take, w8, ℕ}
use Rattle.std.proofs.lemmas.List.{get_or-drop, get_or-take}
use Rattle.std.proofs.lemmas.Nat.{and_mask}
use Rattle.byteorder.specs.Endian.{big_from}
use Rattle.ipv4_fields.specs.declared.header.Field.TheVariants.{FragmentOffset, MoreFragments}
use Rattle.ipv4_fields.specs.Field.{field_of}
use Rattle.ipv4_fields.specs.Dispatchable.{field_value}

side_by_side : (high low : ℕ) → high < 256 → low < 256 → (high * 256 + low) % 16384 ≡ 8192 * (high / 32 % 2) + (high * 256 + low) % 8192
side_by_side high low high_fits low_fits = omega arith

more-value : (packet : List ℕ) → 20 ≤ length packet → field_value MoreFragments packet ≡ slice_index packet 6 / 32 % 2
unfolding field_of
more-value packet header = search rules

offset-value : (packet : List ℕ) → 20 ≤ length packet → field_value FragmentOffset packet ≡ (slice_index packet 6 * 256 + slice_index packet 7) % 8192
unfolding field_of
offset-value packet header = search rules

from-value : (packet : List ℕ) (place : ℕ) → 6 + place < length packet → slice_index (take (length packet - 6) (drop 6 packet)) place ≡ slice_index packet (6 + place)
from-value packet place inside =
    get_or-take (length packet - 6) (drop 6 packet) place 0 (omega arith) ∙ get_or-drop 6 packet place 0

-- what the two bytes from place 6 on tell without their two highest bits
pub more_and_offset : (packet : List ℕ) (half : ℕ) → 20 ≤ length packet → ((i : ℕ) → Fits w8 (slice_index packet i)) → half ≡ big_from 0 2 (take (length packet - 6) (drop 6 packet)) → bit_and half 16383 ≡ 8192 * field_value MoreFragments packet + field_value FragmentOffset packet
more_and_offset packet half header bytes reads =
    let high = from-value packet 0 (omega arith) in
    let low = from-value packet 1 (omega arith) in
    let mask = and_mask half 14 in
    let high_fits = bytes 6 in
    let low_fits = bytes 7 in
    let split = side_by_side (slice_index packet 6) (slice_index packet 7) (omega (arith, high_fits)) (omega (arith, low_fits)) in
    let more = more-value packet header in
    let offset = offset-value packet header in
    omega arith
