-- A table of all bytes, held against what a byte has to pass.
use Rattle.std.proofs.Common.{◌≡◌, ◌<◌, ◌&&◌, Bool, arith, false, inl, inr, refl, suc, true, zero, ℕ}
use Rattle.std.specs.Bool.{beq}
use Rattle.std.proofs.lemmas.Bool.{cases_eq}

-- the two tests agree below n
unfoldable pub agree_below : (ℕ → Bool) → (ℕ → Bool) → ℕ → Bool
agree_below f g zero = true
agree_below f g (suc n) = beq (f n) (g n) && agree_below f g n

both_of : (x y rest : Bool) → (beq x y && rest) ≡ true → (x ≡ y) × (rest ≡ true)
both_of true true rest both = (refl, both)
both_of true false rest both = cc
both_of false true rest both = cc
both_of false false rest both = (refl, both)

pub agree_at : (f g : ℕ → Bool) (n b : ℕ) → agree_below f g n ≡ true → b < n → f b ≡ g b
unfolding agree_below
agree_at f g zero b agree low = absurd (omega arith)
agree_at f g (suc n) b agree low =
    let both = both_of (f n) (g n) (agree_below f g n) agree in
    elim (cases_eq b n) [ inl same ↦ rw same both.0 | inr other ↦ agree_at f g n b both.1 (omega arith) ]
