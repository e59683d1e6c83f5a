-- Lists: elements by place, and what changes at one place.
use Rattle.std.proofs.Common.{Contains, ◌≡◌, ◌≢◌, ◌⊎◌, ℕ, zero, suc, ◌+◌, ◌*◌, ◌-◌, ◌/◌, ◌<◌, ◌≤◌, List, [], ◌∷◌, ◌++◌, Some, drop, length, get_or, set, slice_get, take, refl, sym, ap, ◌∙◌, inl, inr, ⊎_elim, arith}
use Rattle.std.proofs.lemmas.List.{drop-set-add, drop-set-lt, take-set-le}
use Rattle.std.proofs.lemmas.Bool.{cases_lt}
use mathlib.Core.Logic.{dite}
use native.Mathlib.Decide.{ℕ_discrete}
use Rattle.std.proofs.lemmas.Nat.{div-mul-add}
use Rattle.std.proofs.Common.{mul-le-mul_right, suc-mul}
use mathlib.Core.Option.{some, some-injective, some-ne-none}
use lib.ListN.{get_elem?}
use Rattle.versions.specs.State.{change}

module _ {A : Type 0} where
  pub change_length : (f : A → A) (xs : List A) (n : ℕ) → length (change n f xs) ≡ length xs
  change_length f [] n = refl
  change_length f (x ∷ xs) zero = refl
  change_length f (x ∷ xs) (suc n) = ap suc (change_length f xs n)

  pub change_here : (f : A → A) (xs : List A) (n : ℕ) (x : A) → get_elem? xs n ≡ some x → get_elem? (change n f xs) n ≡ some (f x)
  change_here f [] n x e = absurd (some-ne-none x (sym e))
  change_here f (y ∷ xs) zero x e = ap (λ (t : A). some (f t)) (some-injective y x e)
  change_here f (y ∷ xs) (suc n) x e = change_here f xs n x e

  pub change_at : (f : A → A) (xs : List A) (n j : ℕ) (y : A) → get_elem? (change n f xs) j ≡ some y
      → ((j ≡ n) × ((x : A) × (get_elem? xs n ≡ some x) × (y ≡ f x))) ⊎ ((j ≢ n) × (get_elem? xs j ≡ some y))
  change_at f [] n j y e = absurd (some-ne-none y (sym e))
  change_at f (x ∷ xs) zero zero y e = inl (refl, (x, refl, sym (some-injective (f x) y e)))
  change_at f (x ∷ xs) zero (suc j) y e = inr ((λ h. omega arith), e)
  change_at f (x ∷ xs) (suc n) zero y e = inr ((λ h. omega arith), e)
  change_at f (x ∷ xs) (suc n) (suc j) y e = ⊎_elim (λ t. inl (ap suc t.0, t.1)) (λ t. let k = t.0 in inr ((λ h. k (omega arith)), t.1)) (change_at f xs n j y e)

  pub change_else : (f : A → A) (xs : List A) (n j : ℕ) → j ≢ n → get_elem? (change n f xs) j ≡ get_elem? xs j
  change_else f [] n j k = refl
  change_else f (x ∷ xs) zero zero k = absurd (k refl)
  change_else f (x ∷ xs) zero (suc j) k = refl
  change_else f (x ∷ xs) (suc n) zero k = refl
  change_else f (x ∷ xs) (suc n) (suc j) k = change_else f xs n j (λ e. k (ap suc e))

  pub elem_below : (xs : List A) (n : ℕ) (x : A) → get_elem? xs n ≡ some x → n < length xs
  elem_below [] n x e = absurd (some-ne-none x (sym e))
  elem_below (y ∷ xs) zero x e = omega arith
  elem_below (y ∷ xs) (suc n) x e = let h = elem_below xs n x e in omega arith

  pub elem_there : (xs : List A) (n : ℕ) → n < length xs → (x : A) × (get_elem? xs n ≡ some x)
  elem_there [] n h = absurd (omega arith)
  elem_there (x ∷ xs) zero h = (x, refl)
  elem_there (x ∷ xs) (suc n) h = elem_there xs n (omega arith)

  pub elem_prefix : (xs ys : List A) (n : ℕ) (x : A) → get_elem? xs n ≡ some x → get_elem? (xs ++ ys) n ≡ some x
  elem_prefix [] ys n x e = absurd (some-ne-none x (sym e))
  elem_prefix (y ∷ xs) ys zero x e = e
  elem_prefix (y ∷ xs) ys (suc n) x e = elem_prefix xs ys n x e

  pub elem_front : (xs ys : List A) (n : ℕ) (x : A) → n < length xs → get_elem? (xs ++ ys) n ≡ some x → get_elem? xs n ≡ some x
  elem_front [] ys n x l e = absurd (omega arith)
  elem_front (y ∷ xs) ys zero x l e = e
  elem_front (y ∷ xs) ys (suc n) x l e = elem_front xs ys n x (omega arith) e

  pub elem_end : (xs : List A) (x : A) (n : ℕ) → length xs ≡ n → get_elem? (xs ++ x ∷ []) n ≡ some x
  elem_end [] x zero e = refl
  elem_end [] x (suc n) e = absurd (omega arith)
  elem_end (y ∷ xs) x zero e = absurd (omega arith)
  elem_end (y ∷ xs) x (suc n) e = elem_end xs x n (omega arith)

  -- a place of a list with one more at its end
  pub elem_snoc : (xs : List A) (x y : A) (n : ℕ) → get_elem? (xs ++ x ∷ []) n ≡ some y → (get_elem? xs n ≡ some y) ⊎ ((n ≡ length xs) × (x ≡ y))
  elem_snoc [] x y zero e = inr (refl, some-injective x y e)
  elem_snoc [] x y (suc n) e = absurd (some-ne-none y (sym e))
  elem_snoc (a ∷ xs) x y zero e = inl e
  elem_snoc (a ∷ xs) x y (suc n) e = ⊎_elim inl (λ t. let k = t.0 in inr (omega arith, t.1)) (elem_snoc xs x y n e)

  pub elem_same : (xs : List A) (n : ℕ) (x y : A) → get_elem? xs n ≡ some x → get_elem? xs n ≡ some y → x ≡ y
  elem_same xs n x y e f = some-injective x y (sym e ∙ f)

  pub get_elem_or : (xs : List A) (n : ℕ) (x d : A) → get_elem? xs n ≡ some x → get_or xs n d ≡ x
  get_elem_or [] n x d e = absurd (some-ne-none x (sym e))
  get_elem_or (y ∷ xs) zero x d e = some-injective y x e
  get_elem_or (y ∷ xs) (suc n) x d e = get_elem_or xs n x d e

  pub at_set : (l : List A) (i j : ℕ) (a b : A) → get_elem? (set l i a) j ≡ some b → ((j ≡ i) × (a ≡ b)) ⊎ ((j ≢ i) × (get_elem? l j ≡ some b))
  at_set [] i j a b e = absurd (some-ne-none b (sym e))
  at_set (x ∷ xs) zero zero a b e = inl (refl, some-injective a b e)
  at_set (x ∷ xs) zero (suc j) a b e = inr ((λ h. omega arith), e)
  at_set (x ∷ xs) (suc i) zero a b e = inr ((λ h. omega arith), e)
  at_set (x ∷ xs) (suc i) (suc j) a b e = ⊎_elim (λ t. inl (ap suc t.0, t.1)) (λ t. let n = t.0 in inr ((λ h. n (omega arith)), t.1)) (at_set xs i j a b e)

-- two places in rows of the same size
pub same_row : (size r q i j : ℕ) → i < size → j < size → r * size + i ≡ q * size + j → r ≡ q
same_row size r q i j small low e = sym (div-mul-add r size i small) ∙ (ap (λ (k : ℕ). k / size) e ∙ div-mul-add q size j low)

pub row_inside : (r rows i size : ℕ) → r < rows → i < size → r * size + i < rows * size
row_inside r rows i size low small = let h : suc r * size ≤ rows * size = mul-le-mul_right size low in omega (arith, suc-mul r size)

pub some_number : (x y : ℕ) → Some x ≡ Some y → x ≡ y
some_number x y e = cc

pub none_at : (p q : ℕ) (l : List ℕ) → p ≢ q → ((j : ℕ) → slice_get l j ≡ Some q → ⊥) → (j : ℕ) → slice_get (p ∷ l) j ≡ Some q → ⊥
none_at p q l other none zero e = other (some_number p q e)
none_at p q l other none (suc j) e = none j e

pub none_of_none : (q j : ℕ) → slice_get [] j ≡ Some q → ⊥
none_of_none q j e = cc

-- a list has the number at some place, or at none
pub has_or_not : (l : List ℕ) (q : ℕ) → ((j : ℕ) × (slice_get l j ≡ Some q)) ⊎ ((j : ℕ) → slice_get l j ≡ Some q → ⊥)
has_or_not [] q = inr (none_of_none q)
has_or_not (p ∷ l) q = dite (ℕ_discrete p q) (λ e. inl (zero, ap Some e))
    (λ other. ⊎_elim (λ (t : (j : ℕ) × (slice_get l j ≡ Some q)). inl (suc t.0, t.1)) (λ none. inr (none_at p q l other none)) (has_or_not l q))

-- what stands beside a place that is set stays
pub beside_set : (l : List ℕ) (b n i x : ℕ) → (i < b) ⊎ (b + n ≤ i) → take n (drop b (set l i x)) ≡ take n (drop b l)
beside_set l b n i x (inl low) = ap (take n) (drop-set-lt b l i x low)
beside_set l b n i x (inr up) = ap (λ (k : ℕ). take n (drop b (set l k x))) (let g : i ≡ b + (i - b) = omega arith in g)
    ∙ (ap (take n) (drop-set-add b l (i - b) x) ∙ take-set-le n (drop b l) (i - b) x (omega arith))

-- a place of one row is beside another row
pub beside_row : (q r i size : ℕ) → i < size → q ≢ r → (r * size + i < q * size) ⊎ (q * size + size ≤ r * size + i)
beside_row q r i size small other = ⊎_elim
    (λ (low : r < q). inl (let under : suc r * size ≤ q * size = mul-le-mul_right size low in omega (arith, suc-mul r size)))
    (λ (up : q ≤ r). inr (let above : suc q * size ≤ r * size = mul-le-mul_right size (strictly q r other up) in omega (arith, suc-mul q size)))
    (cases_lt r q)
  where
    strictly : (q r : ℕ) → q ≢ r → q ≤ r → suc q ≤ r
    strictly q r other up = dite (ℕ_discrete q r) (λ e. absurd (other e)) (λ ne. omega arith)

module _ {A : Type 0} where
  pub contains_first : (x y : A) (xs : List A) → Contains (x ∷ xs) y → (x ≡ y) ⊎ Contains xs y
  contains_first x y xs (zero, inside, is) = inl is
  contains_first x y xs (suc k, inside, is) = inr (k, omega arith, is)
