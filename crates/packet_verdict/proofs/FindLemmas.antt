-- The first element that passes a test, found by a loop.
use Rattle.std.proofs.Common.{◌≡◌, ◌∙◌, ◌+◌, ◌<◌, ◌∷◌, Bool, List, None, Option, Some, [], ap, arith, cond, false, get_or, length, refl, slice_get, subst, suc, sym, take, true, zero, ℕ}
use Rattle.std.specs.List.{All, find}

cond_none : {X : Type 0} (test : Bool) (x : X) (rest : Option X) → cond test (Some x) rest ≡ None → (test ≡ false) × (rest ≡ None)
cond_none true x rest is = absurd (cc)
cond_none false x rest is = (refl, is)

module _ {X : Type 0} (test : X → Bool) where
  none_after : (xs : List X) (i : ℕ) (x : X) → i < length xs → x ≡ get_or xs i x → test x ≡ false → find test (take i xs) ≡ None → find test (take (suc i) xs) ≡ None
  none_after [] i x inside is fails none = absurd (omega arith)
  none_after (y ∷ ys) zero x inside is fails none = ap (λ b. cond b (Some y) None) (ap test (sym is) ∙ fails)
  none_after (y ∷ ys) (suc i) x inside is fails none =
      let parts = cond_none (test y) y (find test (take i ys)) none in
      rw parts.0 (none_after ys i x (omega arith) is fails parts.1)

  pub none_more : (xs : List X) (i : ℕ) (x : X) → i < length xs → x ≡ get_or xs i x → test x ≡ false → find test (take i xs) ≡ None → find test (take (i + 1) xs) ≡ None
  none_more xs i x inside is fails none =
      let next : suc i ≡ i + 1 = omega arith in subst (λ n. find test (take n xs) ≡ None) next (none_after xs i x inside is fails none)

  pub found_here : (xs : List X) (i : ℕ) (x : X) → i < length xs → x ≡ get_or xs i x → test x ≡ true → find test (take i xs) ≡ None → find test xs ≡ Some x
  found_here [] i x inside is passes none = absurd (omega arith)
  found_here (y ∷ ys) zero x inside is passes none = rw (← is) (rw passes refl)
  found_here (y ∷ ys) (suc i) x inside is passes none =
      let parts = cond_none (test y) y (find test (take i ys)) none in
      rw parts.0 (found_here ys i x (omega arith) is passes parts.1)

-- what holds of all holds of one that is there
pub all_at : {X : Type 0} (P : X → Type 0) (xs : List X) (i : ℕ) (x : X) → All P xs → slice_get xs i ≡ Some x → P x
all_at P [] i x all is = absurd (cc)
all_at P (y ∷ ys) zero x all is = let same : y ≡ x = cc in subst P same (all 0 y (omega arith))
all_at P (y ∷ ys) (suc i) x all is = all_at P ys i x (λ k d below. all (suc k) d (omega arith)) is
