-- The words of a configuration's row: its image, and then zeros.
use Rattle.std.proofs.Common.{◌≡◌, ℕ, ◌+◌, ◌-◌, ◌<◌, ◌≤◌, List, Some, ◌++◌, arith, get_or, length, length-append, replicate, slice_get, slice_index, sym, take, ◌∙◌}
use Rattle.std.proofs.lemmas.List.{get_or-append_right, get_or-replicate, get_or-take, get_or_append_left, length-replicate, length-take-le}
use Rattle.std.proofs.lemmas.Option.{get_or_from_slice_get, slice_get_within}
use Rattle.config_image.specs.declared.TheConstants.{ROW_WORDS}
use Rattle.config_image.specs.Image.{Group, image, row}

padded_front : (n : ℕ) (l : List ℕ) (i x : ℕ) → i < n → slice_get l i ≡ Some x → x ≡ get_or (take n (l ++ replicate n 0)) i 0
padded_front n l i x low at = sym (get_or-take n (l ++ replicate n 0) i 0 low ∙ (get_or_append_left l (replicate n 0) 0 i (slice_get_within l i x at) ∙ get_or_from_slice_get l i x 0 at))

padded_behind : (n : ℕ) (l : List ℕ) (i : ℕ) → i < n → length l ≤ i → 0 ≡ get_or (take n (l ++ replicate n 0)) i 0
padded_behind n l i low up = sym (get_or-take n (l ++ replicate n 0) i 0 low ∙ (get_or-append_right l (replicate n 0) (length l) i 0 Rattle.std.proofs.Common.refl up ∙ get_or-replicate n (i - length l) 0 0 (omega arith)))

pub length-padded : (n : ℕ) (l : List ℕ) → length (take n (l ++ replicate n 0)) ≡ n
length-padded n l = length-take-le n (l ++ replicate n 0) (omega (arith, length-append l (replicate n 0), length-replicate {A = ℕ} n 0))

pub row_of_image : (config : List Group) (i x : ℕ) → i < ROW_WORDS → slice_get (image config) i ≡ Some x → x ≡ slice_index (row config) i
unfolding row
row_of_image config i x low at = padded_front ROW_WORDS (image config) i x low at

pub row_behind_image : (config : List Group) (i len : ℕ) → i < ROW_WORDS → len ≡ length (image config) → len ≤ i → 0 ≡ slice_index (row config) i
unfolding row
row_behind_image config i len low is up = padded_behind ROW_WORDS (image config) i low (omega arith)

pub length-row : (config : List Group) → length (row config) ≡ ROW_WORDS
unfolding row
length-row config = length-padded ROW_WORDS (image config)
