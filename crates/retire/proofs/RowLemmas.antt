-- Lists: what they contain.
use Rattle.std.proofs.Common.{Contains, ◌≡◌, ◌⊎◌, ◌<◌, ◌∷◌, ◌++◌, List, [], arith, inl, inr, suc, zero, ℕ, ⊎_elim}
use Rattle.versions.specs.declared.layout.TheConstants.{WORKERS}
use Rattle.versions.specs.Table.{the_shape}

pub contains_later : {A : Type 0} → (x y : A) (xs : List A) → Contains xs y → Contains (x ∷ xs) y
contains_later x y xs (k, inside, is) = (suc k, omega arith, is)

pub contains_first : {A : Type 0} → (x y : A) (xs : List A) → Contains (x ∷ xs) y → (x ≡ y) ⊎ Contains xs y
contains_first x y xs (zero, inside, is) = inl is
contains_first x y xs (suc k, inside, is) = inr (k, omega arith, is)

pub contains_append : {A : Type 0} → (xs ys : List A) (y : A) → Contains (xs ++ ys) y → Contains xs y ⊎ Contains ys y
contains_append [] ys y c = inr c
contains_append (x ∷ xs) ys y c = ⊎_elim
    (λ same. inl (0, omega arith, same))
    (λ later. ⊎_elim (λ front. inl (contains_later x y xs front)) inr (contains_append xs ys y later))
    (contains_first x y (xs ++ ys) c)

-- what the shape says of workers, in numbers
pub worker_inside : (w : ℕ) → w < the_shape.workers → w < WORKERS
unfolding the_shape
worker_inside w low = low
