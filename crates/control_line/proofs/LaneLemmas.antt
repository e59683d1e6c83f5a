-- Blocks of digits, in the lanes of vectors.
use Rattle.std.proofs.Common.{◌≡◌, ◌∙◌, ◌+◌, ◌-◌, ◌*◌, ◌%◌, ◌^◌, ◌<◌, ◌≤◌, ◌++◌, ◌∷◌, Bool, Fits, List, [], ap, arith, bit_or, cond, false, get_or, inl, inr, leb, length, ltb, map, nat_eq, refl, replicate, subst, suc, sym, true, w8, zero, ℕ}
use Rattle.std.specs.List.{AllPass, range_with_len}
use Rattle.std.proofs.lemmas.Bool.{cases_lt, eqb-false, eqb-true, leb-false, leb-true}
use Rattle.std.proofs.lemmas.List.{get_or-append-add, get_or_append_left, length-map}
use Rattle.std.proofs.lemmas.List.FromFn.{get_or-map-range_with_len}
use Rattle.std.proofs.lemmas.Simd.{get_or-chunk, get_or-put_chunk_at, get_or-put_chunk_below, get_or-replicate, get_or-zip2, length-chunk, length-zip2, mask_l-mod}
use lib.Lanes.{Each1, chunk, mask_l, put_chunk, sel_l, top, zip2}
use Rattle.hex.specs.Hex.{is_hex_digit}
use Rattle.control_line.specs.Packet.{digit_worth}
use Rattle.control_line.specs.body.Pairs.{ArePairs, IsPair}
use Rattle.control_line.proofs.PacketLemmas.{agree_at, agree_below, below_both, both_below, digit_is_small}

-- ---- what a lane is worth

abbrev less : ℕ → ℕ → ℕ
less a b = (a + (2 ^ 8 - b)) % 2 ^ 8

abbrev more : ℕ → ℕ → ℕ
more a b = (a + b) % 2 ^ 8

abbrev below : ℕ → ℕ → ℕ
below a b = cond (ltb a b) 255 0

abbrev lane_worth : ℕ → ℕ
lane_worth b =
    let letter = less (bit_or b 32) 97 in
    cond (top 7 (below (less b 48) 10)) (less b 48) (cond (top 7 (below letter 6)) (more letter 10) 16)

-- held against the definition at each of the 256 bytes, by computing
lane_is_worth : (b : ℕ) → b < 256 → lane_worth b ≡ digit_worth b
unfolding agree_below
lane_is_worth b small = agree_at lane_worth 256 b refl small

abbrev letters : ℕ → List ℕ → List ℕ
letters n bytes = zip2 less (zip2 bit_or bytes (replicate n 32)) (replicate n 97)

abbrev numbers : ℕ → List ℕ → List ℕ
numbers n bytes = zip2 less bytes (replicate n 48)

abbrev lane_worths : ℕ → List ℕ → List ℕ
lane_worths n bytes =
    sel_l (map (top 7) (zip2 below (numbers n bytes) (replicate n 10))) (numbers n bytes)
    (sel_l (map (top 7) (zip2 below (letters n bytes) (replicate n 6))) (zip2 more (letters n bytes) (replicate n 10)) (replicate n 16))

pub lanes_are_worths : (n : ℕ) (bytes : List ℕ) → length bytes ≡ n → Each1 (Fits w8) bytes → lane_worths n bytes ≡ map digit_worth bytes
lanes_are_worths zero [] long fits = refl
lanes_are_worths zero (b ∷ bytes) long fits = absurd (omega arith)
lanes_are_worths (suc n) [] long fits = absurd (omega arith)
lanes_are_worths (suc n) (b ∷ bytes) long fits = λ i. lane_is_worth b fits.0.fits i ∷ lanes_are_worths n bytes (omega arith) fits.1 i

-- ---- the test of all lanes

abbrev at_least : ℕ → ℕ → ℕ
at_least a b = cond (leb a b) 255 0

-- a bit is set where one of two lanes is 16 or more
abbrev bad_lanes : ℕ → List ℕ → List ℕ → List Bool
bad_lanes n high low = map (top 7) (zip2 at_least (replicate n 16) (zip2 bit_or high low))

abbrev AreSmall : ℕ → List ℕ → List ℕ → Type 0
AreSmall n high low = (j : ℕ) → j < n → (get_or high j 0 < 16) × (get_or low j 0 < 16)

none_bad : (h l : ℕ) (rest : ℕ) (is : Bool) → leb 16 (bit_or h l) ≡ is → cond {A = ℕ} (top 7 (cond is 255 0)) 1 0 + 2 * rest ≡ 0 → (bit_or h l < 16) × (rest ≡ 0)
none_bad h l rest true is none = absurd (omega arith)
none_bad h l rest false is none = (omega (arith, leb-false 16 (bit_or h l) is), omega arith)

not_bad : (h l : ℕ) (rest : ℕ) (is : Bool) → leb 16 (bit_or h l) ≡ is → bit_or h l < 16 → rest ≡ 0 → cond {A = ℕ} (top 7 (cond is 255 0)) 1 0 + 2 * rest ≡ 0
not_bad h l rest true is small none = absurd (omega (arith, leb-true 16 (bit_or h l) is))
not_bad h l rest false is small none = omega arith

small_lanes : (n : ℕ) (high low : List ℕ) → length high ≡ n → length low ≡ n → mask_l (bad_lanes n high low) ≡ 0 → AreSmall n high low
small_lanes zero high low hn ln none j inside = absurd (omega arith)
small_lanes (suc n) [] low hn ln none j inside = absurd (omega arith)
small_lanes (suc n) (h ∷ high) [] hn ln none j inside = absurd (omega arith)
small_lanes (suc n) (h ∷ high) (l ∷ low) hn ln none zero inside = both_below h l (none_bad h l _ _ refl none).0
small_lanes (suc n) (h ∷ high) (l ∷ low) hn ln none (suc j) inside = small_lanes n high low (omega arith) (omega arith) (none_bad h l _ _ refl none).1 j (omega arith)

no_bad_lane : (n : ℕ) (high low : List ℕ) → length high ≡ n → length low ≡ n → AreSmall n high low → mask_l (bad_lanes n high low) ≡ 0
no_bad_lane zero high low hn ln small = refl
no_bad_lane (suc n) [] low hn ln small = absurd (omega arith)
no_bad_lane (suc n) (h ∷ high) [] hn ln small = absurd (omega arith)
no_bad_lane (suc n) (h ∷ high) (l ∷ low) hn ln small =
    let first = small 0 (omega arith) in
    not_bad h l _ _ refl (below_both h l first.0 first.1) (no_bad_lane n high low (omega arith) (omega arith) (λ j inside. small (suc j) (omega arith)))

-- ---- a block

abbrev times : ℕ → ℕ → ℕ
times a b = a * b % 2 ^ 8

abbrev lane_bytes : List ℕ → List ℕ → List ℕ
lane_bytes high low = zip2 more (zip2 times high (replicate 16 16)) low

-- the block's digits, from byte `at` on
abbrev block : List ℕ → ℕ → List ℕ
block digits at = chunk (2 * at) 16 digits ++ chunk (2 * at + 16) 16 digits

block_at : (digits : List ℕ) (at i : ℕ) → 2 * at + 32 ≤ length digits → i < 32 → get_or (block digits at) i 0 ≡ get_or digits (2 * at + i) 0
block_at digits at i long inside =
    let first = chunk (2 * at) 16 digits in let second = chunk (2 * at + 16) 16 digits in
    let whole : length first ≡ 16 = length-chunk (2 * at) 16 digits (omega arith) in
    elim (cases_lt i 16) [
      | inl front ↦ get_or_append_left first second 0 i (omega arith) ∙ get_or-chunk (2 * at) 16 digits i 0 front
      | inr behind ↦
          ap (λ n. get_or (first ++ second) n 0) (omega arith)
          ∙ get_or-append-add first second (i - 16) 0
          ∙ get_or-chunk (2 * at + 16) 16 digits (i - 16) 0 (omega arith)
          ∙ ap (λ n. get_or digits n 0) (omega arith)
    ]

module _ (digits packet : List ℕ) (at : ℕ) (long : length digits ≡ 2 * length packet) (inside : at + 16 ≤ length packet) (high low : List ℕ)
    (high_is : high ≡ map (λ k. digit_worth (get_or (block digits at) (2 * k) 0)) (range_with_len 0 16))
    (low_is : low ≡ map (λ k. digit_worth (get_or (block digits at) (2 * k + 1) 0)) (range_with_len 0 16)) where
  high_long : length high ≡ 16
  high_long = ap length high_is

  low_long : length low ≡ 16
  low_long = ap length low_is

  high_at : (j : ℕ) → j < 16 → get_or high j 0 ≡ digit_worth (get_or digits (2 * (at + j)) 0)
  high_at j within =
      ap (λ l. get_or l j 0) high_is
      ∙ get_or-map-range_with_len (λ k. digit_worth (get_or (block digits at) (2 * k) 0)) 0 16 j j 0 within (omega arith)
      ∙ ap digit_worth (block_at digits at (2 * j) (omega arith) (omega arith) ∙ ap (λ n. get_or digits n 0) (omega arith))

  low_at : (j : ℕ) → j < 16 → get_or low j 0 ≡ digit_worth (get_or digits (2 * (at + j) + 1) 0)
  low_at j within =
      ap (λ l. get_or l j 0) low_is
      ∙ get_or-map-range_with_len (λ k. digit_worth (get_or (block digits at) (2 * k + 1) 0)) 0 16 j j 0 within (omega arith)
      ∙ ap digit_worth (block_at digits at (2 * j + 1) (omega arith) (omega arith) ∙ ap (λ n. get_or digits n 0) (omega arith))

  byte_at : (j : ℕ) → j < 16 → get_or (lane_bytes high low) j 0 ≡ more (times (get_or high j 0) 16) (get_or low j 0)
  byte_at j within =
      let halves : length (zip2 times high (replicate 16 16)) ≡ 16 = length-zip2 times high (replicate 16 16) high_long ∙ high_long in
      get_or-zip2 more (zip2 times high (replicate 16 16)) low j 0 0 0 (omega arith) (omega (arith, low_long))
      ∙ ap (λ h. more h (get_or low j 0)) (get_or-zip2 times high (replicate 16 16) j 0 0 0 (omega (arith, high_long)) within ∙ ap (times (get_or high j 0)) (get_or-replicate 16 j 16 0 within))

  abbrev after : List ℕ
  after = put_chunk at packet (lane_bytes high low)

  bytes_long : length (lane_bytes high low) ≡ 16
  bytes_long = let halves = length-zip2 times high (replicate 16 16) high_long in length-zip2 more (zip2 times high (replicate 16 16)) low (halves ∙ high_long ∙ sym low_long) ∙ (halves ∙ high_long)

  pair_in_block : (j : ℕ) → j < 16 → (get_or high j 0 < 16) × (get_or low j 0 < 16) → IsPair digits after (at + j)
  pair_in_block j within (h, l) = record {
    high = subst (λ n. n < 16) (high_at j within) h;
    low = subst (λ n. n < 16) (low_at j within) l;
    byte = get_or-put_chunk_at at packet (lane_bytes high low) j 0 (omega (arith, bytes_long)) (omega (arith, bytes_long))
        ∙ byte_at j within ∙ whole
        ∙ (ap (λ n. n * 16 + get_or low j 0) (high_at j within) ∙ ap (λ n. digit_worth (get_or digits (2 * (at + j)) 0) * 16 + n) (low_at j within));
  }
    where
      whole : more (times (get_or high j 0) 16) (get_or low j 0) ≡ get_or high j 0 * 16 + get_or low j 0
      whole = omega arith

  pair_before : (k : ℕ) → k < at → IsPair digits packet k → IsPair digits after k
  pair_before k earlier pair = record { high = pair.high; low = pair.low; byte = get_or-put_chunk_below at packet (lane_bytes high low) k 0 earlier ∙ pair.byte }

  few : mask_l (bad_lanes 16 high low) % 2 ^ 64 ≡ mask_l (bad_lanes 16 high low)
  few = mask_l-mod (bad_lanes 16 high low) 64 (omega (arith, lanes))
    where
      either_long : length (zip2 bit_or high low) ≡ 16
      either_long = length-zip2 bit_or high low (high_long ∙ sym low_long) ∙ high_long

      lanes : length (bad_lanes 16 high low) ≡ 16
      lanes = length-map (zip2 at_least (replicate 16 16) (zip2 bit_or high low)) (top 7) ∙ length-zip2 at_least (replicate 16 16) (zip2 bit_or high low) (sym either_long)

  pub block_read : nat_eq (mask_l (bad_lanes 16 high low) % 2 ^ 64) 0 ≡ true → ArePairs digits packet at → ArePairs digits after (at + 16)
  block_read none before k within = elim (cases_lt k at) [
    | inl earlier ↦ pair_before k earlier (before k earlier)
    | inr later ↦
        let small = small_lanes 16 high low high_long low_long (sym few ∙ eqb-true _ _ none) (k - at) (omega arith) in
        subst (IsPair digits after) (omega arith) (pair_in_block (k - at) (omega arith) small)
  ]

  pub block_refused : nat_eq (mask_l (bad_lanes 16 high low) % 2 ^ 64) 0 ≡ false → AllPass is_hex_digit digits → ⊥
  block_refused some all = eqb-false _ _ some (few ∙ no_bad_lane 16 high low high_long low_long (λ j within. (
    subst (λ n. n < 16) (sym (high_at j within)) (digit_is_small (get_or digits (2 * (at + j)) 0) (all (2 * (at + j)) 0 (omega arith))),
    subst (λ n. n < 16) (sym (low_at j within)) (digit_is_small (get_or digits (2 * (at + j) + 1) 0) (all (2 * (at + j) + 1) 0 (omega arith))),
  )))
