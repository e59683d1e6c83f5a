-- What a list contains.
use Rattle.std.proofs.Common.{Contains, suc, List, [], ◌∷◌, ◌++◌, arith, refl, subst, ⊎_elim}
use Rattle.versions.proofs.ListLemmas.{contains_first}

module _ {A : Type 0} where
  pub contains_later : (x y : A) (xs : List A) → Contains xs y → Contains (x ∷ xs) y
  contains_later x y xs (k, inside, is) = (suc k, omega arith, is)

  -- each element of a list with one more at its end
  pub contains_snoc : (P : A → Type 0) (xs : List A) (x y : A) → ((z : A) → Contains xs z → P z) → P x → Contains (xs ++ x ∷ []) y → P y
  contains_snoc P [] x y each last there = ⊎_elim (λ is. subst P is last) (λ (none : Contains [] y). absurd (let l = none.1 in omega arith)) (contains_first x y [] there)
  contains_snoc P (a ∷ xs) x y each last there = ⊎_elim (λ is. subst P is (each a (0, omega arith, refl)))
      (λ later. contains_snoc P xs x y (λ z t. each z (contains_later a z xs t)) last later) (contains_first a y (xs ++ x ∷ []) there)
