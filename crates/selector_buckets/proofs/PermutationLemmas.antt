-- An odd skip leads from each bucket to each other one, where the number of buckets is a power of two.
use Rattle.std.proofs.Common.{◌≡◌, ◌∙◌, ◌+◌, ◌-◌, ◌*◌, ◌/◌, ◌%◌, ◌<◌, ◌^◌, ◌⊎◌, ap, arith, inl, inr, suc, sym, zero, ℕ, ⊎_elim}
use Rattle.std.proofs.Math.Nat.{add-mul-mod_self_left, div-add-mod, mod-eq_of_lt, mod-lt, pow-suc}
use Rattle.std.proofs.lemmas.Bool.{cases_eq}
use Rattle.std.proofs.lemmas.Nat.{pow_pos}

halved : (q : ℕ) → (r : ℕ) × ((q ≡ 2 * r) ⊎ (q ≡ 2 * r + 1))
halved q = (q / 2, ⊎_elim (λ even. inl (omega arith)) (λ odd. inr (omega arith)) (cases_eq (q % 2) 0))

-- an odd number has an inverse
abbrev Inverse : ℕ → ℕ → Type 0
Inverse n s = (t : ℕ) × (q : ℕ) × (s * t ≡ 1 + n * q)

next_inverse : (n h t q r : ℕ) → (2 * h + 1) * t ≡ 1 + n * q → (q ≡ 2 * r) ⊎ (q ≡ 2 * r + 1) → Inverse (n * 2) (2 * h + 1)
next_inverse n h t q r is (inl even) = (t, r, is ∙ (let e = ap (λ x. n * x) even in let g : 1 + n * q ≡ 1 + n * 2 * r = omega arith in g))
next_inverse n h t q r is (inr odd) = (t + n, r + h + 1, (let e = ap (λ x. n * x) odd in let g : (2 * h + 1) * (t + n) ≡ 1 + n * 2 * (r + h + 1) = omega arith in g))

inverse : (d h : ℕ) → Inverse (2 ^ d) (2 * h + 1)
inverse zero h = (1, 2 * h, omega arith)
inverse (suc d) h = let t = inverse d h in let r = halved t.1 in rw (pow-suc 2 d) (next_inverse (2 ^ d) h t.0 t.1 r.0 t.2 r.1)

same_rest : (n a c x y : ℕ) → c < n → a + n * x ≡ c + n * y → a % n ≡ c
same_rest n a c x y small is = sym (add-mul-mod_self_left a n x) ∙ ap (λ m. m % n) is ∙ add-mul-mod_self_left c n y ∙ mod-eq_of_lt small

meets : (n s t q p c delta j u w : ℕ) → s * t ≡ 1 + n * q → n * u + j ≡ delta * t → p + delta ≡ c + n * w → p + j * s + n * (u * s) ≡ c + n * (w + delta * q)
meets n s t q p c delta j u w inverse rest far =
    let one : delta * (s * t) ≡ delta * (1 + n * q) = ap (λ x. delta * x) inverse in
    let two : (n * u + j) * s ≡ delta * t * s = ap (λ x. x * s) rest in
    omega arith

-- so many skips, fewer than there are buckets, lead to the bucket
pub reaches : (d h p c : ℕ) → c < 2 ^ d → (j : ℕ) × (j < 2 ^ d) × ((p + j * (2 * h + 1)) % 2 ^ d ≡ c)
reaches d h p c inside =
    let n = 2 ^ d in
    let t = inverse d h in
    let delta = c + (n - p % n) in
    let small : p % n < n = mod-lt p (pow_pos d) in
    let whole = div-add-mod p n in
    let far : p + delta ≡ c + n * (p / n + 1) = omega arith in (
      delta * t.0 % n,
      mod-lt (delta * t.0) (pow_pos d),
      same_rest n (p + delta * t.0 % n * (2 * h + 1)) c (delta * t.0 / n * (2 * h + 1)) (p / n + 1 + delta * t.1) inside
          (meets n (2 * h + 1) t.0 t.1 p c delta (delta * t.0 % n) (delta * t.0 / n) (p / n + 1) t.2 (div-add-mod (delta * t.0) n) far),
    )
