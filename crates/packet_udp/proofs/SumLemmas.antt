-- The one's complement sum and the plain sum of words.
use Rattle.std.proofs.Common.{◌≡◌, ◌+◌, ◌*◌, ◌/◌, ◌%◌, ◌<◌, ◌≤◌, ◌∷◌, Fits, List, [], arith, get_or, refl, suc, w8, zero, ℕ}
use Rattle.std.proofs.Math.Facts.{Fits-lt-pow}
use Rattle.packet_udp.specs.Checksum.{ones_complement_add, ones_complement_sum}
use Rattle.packet_udp.specs.body.Bytes.{word_sum}

abbrev pub AreBytes : List ℕ → Type 0
AreBytes [] = Unit {0}
AreBytes (byte ∷ bytes) = (byte < 256) × AreBytes bytes

pub are_bytes : (bytes : List ℕ) → ((k : ℕ) → Fits w8 (get_or bytes k 0)) → AreBytes bytes
are_bytes [] fit = tt
are_bytes (byte ∷ bytes) fit = (Fits-lt-pow (fit 0), are_bytes bytes (λ k. fit (suc k)))

-- the carries are put back, which takes 65535 away for each; only words that are all 0 have the sum 0
pub record IsFolded (plain sum : ℕ) : Type 0 where
  pub carries : ℕ
  pub value : plain ≡ sum + 65535 * carries
  pub most : sum ≤ 65535
  pub zero : sum ≡ 0 → plain ≡ 0

folded-add : (word plain sum : ℕ) → word ≤ 65535 → IsFolded plain sum → IsFolded (word + plain) (ones_complement_add word sum)
folded-add word plain sum fits is = record {
  carries = (word + sum) / 65536 + is.carries;
  value = omega (arith, is.value, is.most);
  most = omega (arith, is.most);
  zero = λ none. let rest : sum ≡ 0 = omega arith in omega (arith, is.zero rest);
}

pub folded : (bytes : List ℕ) → AreBytes bytes → IsFolded (word_sum bytes) (ones_complement_sum bytes)
folded [] fit = record { carries = 0; value = refl; most = omega arith; zero = λ none. refl }
folded (high ∷ []) fit = let small = fit.0 in record { carries = 0; value = omega arith; most = omega arith; zero = λ none. none }
folded (high ∷ low ∷ bytes) fit =
    let small = fit.0 in let small' = fit.1.0 in
    folded-add (high * 256 + low) (word_sum bytes) (ones_complement_sum bytes) (omega arith) (folded bytes fit.1.1)

-- words whose plain sum is a multiple of 65535, but not 0, have the sum 65535
pub full_sum : (bytes : List ℕ) → AreBytes bytes → word_sum bytes % 65535 ≡ 0 → 1 ≤ word_sum bytes → ones_complement_sum bytes ≡ 65535
full_sum bytes fit completes some = omega (arith, is.value, is.most, not_zero (ones_complement_sum bytes) refl)
  where
    is : IsFolded (word_sum bytes) (ones_complement_sum bytes)
    is = folded bytes fit

    not_zero : (sum : ℕ) → ones_complement_sum bytes ≡ sum → 1 ≤ sum
    not_zero zero none = let nothing = is.zero none in absurd (omega arith)
    not_zero (suc sum) same = omega arith
