-- Numbers in packets, as the machine loads them and as the header's fields tell them.
use Rattle.std.proofs.Common.{◌≡◌, ◌∙◌, ◌∷◌, ◌+◌, ◌*◌, ◌/◌, ◌%◌, ◌<◌, ◌^◌, ◌≤◌, Bool, List, None, Some, [], ap, arith, bit_and, cond, drop, false, length, refl, sym, take, true, ℕ}
use Rattle.std.specs.Prelude.{All, nat_le}
use Rattle.std.proofs.lemmas.Nat.{and_assoc, and_mask}
use Rattle.std.proofs.lemmas.Grind.{and_high_numeral}
use Rattle.std.proofs.lemmas.List.{length-take}
use Rattle.std.proofs.lemmas.List.Elements.{All-drop, All-take}
use Rattle.bpf_insn.specs.declared.instruction.Size.{Size}
use Rattle.bpf_machine.specs.Packet.{big_endian_after, byte_count, packet_number}
use Rattle.bpf_machine.specs.declared.TheConstants.{MAX_PACKET}
use Rattle.filter_tree.specs.declared.TheConstants as expressions
use Rattle.ipv4_fields.specs.Field.{number_at}
use Rattle.ipv4_fields.specs.Field as fields

-- what is a packet for expressions is one for the machine
pub one_limit : expressions.MAX_PACKET ≡ MAX_PACKET
one_limit = refl

same_number : (n : ℕ) (bytes : List ℕ) → big_endian_after n bytes ≡ fields.big_endian_after n bytes
same_number n [] = refl
same_number n (byte ∷ bytes) = same_number (n * 256 + byte) bytes

pub packet_number-number_at : (packet : List ℕ) (size : Size) (place : ℕ) → packet_number packet size place ≡ number_at (byte_count size) packet place
packet_number-number_at packet size place =
    ap (λ (n : ℕ). cond (nat_le (place + byte_count size) (length packet)) (Some n) None) (same_number 0 (take (byte_count size) (drop place packet)))

-- the high four bits of a byte
pub and-high_bits : (n : ℕ) → bit_and n 0xf0 ≡ n / 16 % 16 * 16
and-high_bits n =
    let low : bit_and n 0xf0 ≡ bit_and (n % 256) 0xf0 = sym (and_assoc 0xf0 n 0xff) ∙ ap (λ m. bit_and m 0xf0) (and_mask n 8) in
    let high = and_high_numeral (n % 256) 0xef refl (omega arith) in
    low ∙ (let g : bit_and (n % 256) 0xf0 ≡ n / 16 % 16 * 16 = omega (arith, high) in g)

pub and-low_bits : (n : ℕ) → bit_and n 0x1fff ≡ n % 8192
and-low_bits n = and_mask n 13

-- ---- numbers of 32 bits

below_word : (bytes : List ℕ) → All (λ byte. byte < 2 ^ 8) bytes → length bytes ≤ 4 → fields.big_endian_after 0 bytes < 2 ^ 32
below_word [] all few = omega arith
below_word (a ∷ []) all few = let p : a < 256 = all 0 0 (omega arith) in omega arith
below_word (a ∷ b ∷ []) all few = let p : a < 256 = all 0 0 (omega arith) in let q : b < 256 = all 1 0 (omega arith) in omega arith
below_word (a ∷ b ∷ c ∷ []) all few = let p : a < 256 = all 0 0 (omega arith) in let q : b < 256 = all 1 0 (omega arith) in let r : c < 256 = all 2 0 (omega arith) in omega arith
below_word (a ∷ b ∷ c ∷ d ∷ []) all few =
    let p : a < 256 = all 0 0 (omega arith) in let q : b < 256 = all 1 0 (omega arith) in let r : c < 256 = all 2 0 (omega arith) in let s : d < 256 = all 3 0 (omega arith) in omega arith
below_word (a ∷ b ∷ c ∷ d ∷ e ∷ more) all few = absurd (omega arith)

some_of : (test : Bool) (n v : ℕ) → cond test (Some n) None ≡ Some v → n ≡ v
some_of true n v is = cc
some_of false n v is = cc

pub number_at-below : (n : ℕ) (packet : List ℕ) (place v : ℕ) → n ≤ 4 → All (λ byte. byte < 2 ^ 8) packet → number_at n packet place ≡ Some v → v < 2 ^ 32
number_at-below n packet place v few all is =
    let number = some_of (nat_le (place + n) (length packet)) (fields.big_endian_after 0 (take n (drop place packet))) v is in
    let low = below_word (take n (drop place packet)) (All-take (λ byte. byte < 2 ^ 8) n (drop place packet) (All-drop (λ byte. byte < 2 ^ 8) place packet all)) (omega (arith, length-take n (drop place packet))) in
    omega arith
