-- A rate by a quotient and a remainder.
use Rattle.std.proofs.Common.{◌≡◌, ◌∙◌, ◌+◌, ◌*◌, ◌/◌, ◌%◌, ◌<◌, ap, arith, sym, ℕ}
use Rattle.std.proofs.lemmas.Nat.{div-add-mod', div-mul-add}
use Rattle.std.proofs.lemmas.Grind.{common_steps}

spread : (q s m : ℕ) → (q * 1000 + s) * m ≡ q * m * 1000 + s * m
spread q s m = grind (arith, common_steps)

pub rate_by_parts : (n m : ℕ) → 0 < m → n / m * 1000 + n % m * 1000 / m ≡ n * 1000 / m
rate_by_parts n m some =
    let q = n / m in
    let r = n % m in
    let s = r * 1000 / m in
    let t = r * 1000 % m in
    let whole : q * m + r ≡ n = div-add-mod' n m in
    let rest : s * m + t ≡ r * 1000 = div-add-mod' (r * 1000) m in
    let small : t < m = omega arith in
    let all : (q * 1000 + s) * m + t ≡ n * 1000 = let e = spread q s m in omega arith in
    sym (div-mul-add (q * 1000 + s) m t small) ∙ ap (λ x. x / m) all
