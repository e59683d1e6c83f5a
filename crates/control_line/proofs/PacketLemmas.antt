-- Digits that write a packet, and those that write none.
use Rattle.std.proofs.Common.{◌≡◌, ◌∙◌, ◌+◌, ◌*◌, ◌/◌, ◌%◌, ◌<◌, ◌≤◌, ◌&&◌, ◌∷◌, Bool, List, Ok, Option, None, Some, [], ap, arith, inl, inr, is_some, length, nat_eq, nat_lt, refl, set, slice_index, suc, subst, sym, true, unwrap_or, zero, ℕ}
use Rattle.std.specs.List.{AllPass}
use Rattle.std.specs.Prelude.{bit_or}
use Rattle.std.proofs.lemmas.Bool.{and_parts, cases_eq, eqb-true, ltb-true}
use Rattle.std.proofs.lemmas.List.{get_or-set_other, get_or-set_same}
use Rattle.std.proofs.lemmas.Nat.{le_or_l, le_or_r, or_lt}
use Rattle.bpf_machine.specs.declared.TheConstants.{MAX_PACKET}
use Rattle.hex.specs.Hex.{decode_of, decode_pairs, digit_or_error, hex_digit_value, is_hex_digit, pair_value}
use Rattle.hex.proofs.HexLemmas.{decode_of-even, decode_of-ok}
use Rattle.hex.proofs.Pairs.{cons_byte, decode_pairs-ok_pair}
use Rattle.control_line.specs.Packet.{SpellsTooMuch, digit_worth}
use Rattle.control_line.specs.body.Pairs.{IsPair}

-- ---- what a byte is worth

-- a table and the definition agree below n
unfoldable pub agree_below : (ℕ → ℕ) → ℕ → Bool
agree_below worth zero = true
agree_below worth (suc n) = nat_eq (worth n) (digit_worth n) && agree_below worth n

pub agree_at : (worth : ℕ → ℕ) (n b : ℕ) → agree_below worth n ≡ true → b < n → worth b ≡ digit_worth b
unfolding agree_below
agree_at worth zero b agree low = absurd (omega arith)
agree_at worth (suc n) b agree low =
    let both = and_parts (nat_eq (worth n) (digit_worth n)) (agree_below worth n) agree in
    elim (cases_eq b n) [ inl same ↦ rw same (eqb-true (worth n) (digit_worth n) both.0) | inr other ↦ agree_at worth n b both.1 (omega arith) ]

some_below : (o : Option ℕ) → unwrap_or o 16 < 16 → o ≡ Some (unwrap_or o 16)
some_below (Some v) low = refl
some_below None low = absurd (omega arith)

pub value_small : (c v : ℕ) → hex_digit_value c ≡ Some v → v < 16
value_small c v is = grind arith

is_some_value : (o : Option ℕ) → is_some o ≡ true → (v : ℕ) × (o ≡ Some v)
is_some_value (Some v) is = (v, refl)
is_some_value None is = cc is

pub digit_is_small : (c : ℕ) → is_hex_digit c ≡ true → digit_worth c < 16
digit_is_small c is =
    let (v, value) = is_some_value (hex_digit_value c) is in
    subst (λ (o : Option ℕ). unwrap_or o 16 < 16) (sym value) (value_small c v value)

-- ---- pairs of digits

pair_read : (a b i : ℕ) → digit_worth a < 16 → digit_worth b < 16 → pair_value a b i ≡ Ok (digit_worth a * 16 + digit_worth b)
pair_read a b i high low =
    let ha = ap (digit_or_error a i) (some_below (hex_digit_value a) high) in
    let hb = ap (digit_or_error b (i + 1)) (some_below (hex_digit_value b) low) in
    rw (ha, hb) refl

pair_behind : (a b x : ℕ) (digits packet : List ℕ) (k : ℕ) → IsPair (a ∷ b ∷ digits) (x ∷ packet) (suc k) → IsPair digits packet k
pair_behind a b x digits packet k pair =
    let even : 2 * suc k ≡ suc (suc (2 * k)) = omega arith in
    let odd : 2 * suc k + 1 ≡ suc (suc (2 * k + 1)) = omega arith in
    record {
      high = subst (λ n. digit_worth (slice_index (a ∷ b ∷ digits) n) < 16) even pair.high;
      low = subst (λ n. digit_worth (slice_index (a ∷ b ∷ digits) n) < 16) odd pair.low;
      byte = pair.byte
          ∙ ap (λ n. digit_worth (slice_index (a ∷ b ∷ digits) n) * 16 + digit_worth (slice_index (a ∷ b ∷ digits) (2 * suc k + 1))) even
          ∙ ap (λ n. digit_worth (slice_index digits (2 * k)) * 16 + digit_worth (slice_index (a ∷ b ∷ digits) n)) odd;
    }

pairs_read : (i : ℕ) (digits packet : List ℕ) → length digits ≡ 2 * length packet → ((k : ℕ) → k < length packet → IsPair digits packet k) → decode_pairs i digits ≡ Ok packet
unfolding decode_pairs
pairs_read i [] [] len pairs = refl
pairs_read i [] (x ∷ packet) len pairs = absurd (omega arith)
pairs_read i (a ∷ digits) [] len pairs = absurd (omega arith)
pairs_read i (a ∷ []) (x ∷ packet) len pairs = absurd (omega arith)
pairs_read i (a ∷ b ∷ digits) (x ∷ packet) len pairs =
    let first = pairs 0 (omega arith) in
    decode_pairs-ok_pair i a b (digit_worth a * 16 + digit_worth b) digits (pair_read a b i first.high first.low)
    ∙ ap (cons_byte (digit_worth a * 16 + digit_worth b)) (pairs_read (i + 2) digits packet (omega arith) (λ k low. pair_behind a b x digits packet k (pairs (suc k) (omega arith))))
    ∙ ap (λ v. Ok (v ∷ packet)) (sym first.byte)

packet_read : (digits packet : List ℕ) → length digits ≡ 2 * length packet → ((k : ℕ) → k < length packet → IsPair digits packet k) → decode_of digits ≡ Ok packet
packet_read digits packet len pairs = decode_of-even digits (omega arith) ∙ pairs_read 0 digits packet len pairs

-- ---- the loop over the pairs

-- below 16 are both, or one is not
pub both_below : (a b : ℕ) → bit_or a b < 16 → (a < 16) × (b < 16)
both_below a b below = let left = le_or_l a b in let right = le_or_r a b in (omega arith, omega arith)

pub below_both : (a b : ℕ) → a < 16 → b < 16 → bit_or a b < 16
below_both a b left right = or_lt 4 a b left right

all_below : (bits high low : ℕ) → bit_or bits (bit_or high low) < 16 → (bits < 16) × (high < 16) × (low < 16)
all_below bits high low below = let all = both_below bits (bit_or high low) below in let both = both_below high low all.1 in (all.0, both.0, both.1)

-- so far each is a pair of digits, or the bits tell that one is not
pub record AreRead (digits packet : List ℕ) (i bits : ℕ) : Type 0 where
  pub pairs : bits < 16 → (k : ℕ) → k < i → IsPair digits packet k
  pub small : AllPass is_hex_digit digits → bits < 16

module _ (digits packet : List ℕ) (i bits : ℕ) (before : AreRead digits packet i bits) (inside : i < length packet) (long : length digits ≡ 2 * length packet)
    (high low : ℕ) (high_is : high ≡ digit_worth (slice_index digits (2 * i))) (low_is : low ≡ digit_worth (slice_index digits (2 * i + 1))) where
  abbrev byte : ℕ
  byte = (high * 16 % 256 + low) % 256

  abbrev after : List ℕ
  after = set packet i byte

  pair_at : (bits < 16) × (high < 16) × (low < 16) → (k : ℕ) → k < i + 1 → IsPair digits after k
  pair_at (below, h, l) k within = elim (cases_eq k i) [
    | inl same ↦
        subst (λ n. IsPair digits after n) (sym same)
        (record {
          high = subst (λ n. n < 16) high_is h;
          low = subst (λ n. n < 16) low_is l;
          byte = get_or-set_same packet i byte 0 inside ∙ (whole ∙ (ap (λ n. n * 16 + low) high_is ∙ ap (λ n. digit_worth (slice_index digits (2 * i)) * 16 + n) low_is));
        })
    | inr other ↦
        let pair = before.pairs below k (omega arith) in
        record { high = pair.high; low = pair.low; byte = get_or-set_other packet i k byte 0 other ∙ pair.byte }
  ]
    where
      whole : byte ≡ high * 16 + low
      whole = omega arith

  pub pair_added : AreRead digits after (i + 1) (bit_or bits (bit_or high low))
  pair_added = record {
    pairs = λ below. pair_at (all_below bits high low below);
    small = λ all. below_both bits (bit_or high low) (before.small all) (below_both high low
        (subst (λ n. n < 16) (sym high_is) (digit_is_small (slice_index digits (2 * i)) (all (2 * i) 0 (omega arith))))
        (subst (λ n. n < 16) (sym low_is) (digit_is_small (slice_index digits (2 * i + 1)) (all (2 * i + 1) 0 (omega arith)))));
  }

pub all_read : (digits packet : List ℕ) (i bits : ℕ) → AreRead digits packet i bits → length packet ≤ i → length digits ≡ 2 * length packet → nat_lt bits 16 ≡ true → decode_of digits ≡ Ok packet
all_read digits packet i bits read all long below = packet_read digits packet long (λ k inside. read.pairs (ltb-true bits 16 below) k (omega arith))

-- ---- packets that are too long

pub too_much : (text packet : List ℕ) → decode_of text ≡ Ok packet → MAX_PACKET < length text / 2 → SpellsTooMuch text
too_much text packet spells long =
    let read = decode_of-ok text packet spells in
    record { hex = record { even = read.0; digits = read.1 }; too_long = omega arith }
