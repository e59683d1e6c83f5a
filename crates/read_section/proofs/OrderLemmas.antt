-- The order of workers after the moves.
use Rattle.std.proofs.Common.{◌≡◌, ◌∙◌, ◌+◌, ◌-◌, ◌*◌, ◌<◌, ◌≤◌, ◌++◌, ◌∷◌, List, Option, Some, [], ap, append-nil, arith, drop, length, map, refl, reverse, subst, suc, sym, take, zero, ℕ}
use Rattle.std.proofs.lemmas.List.{drop-map, drop_all, map-append, reverse-append, take-map, take_all}
use Rattle.std.specs.List.{range_with_len, remove, slice_get, slice_index_or}
use Rattle.versions.specs.declared.layout.TheConstants.{WORKERS}
use Rattle.read_section.specs.WorkerOrder.{IsSpread, taken_in_order}
use Rattle.read_section.specs.body.Order.{first_moved, first_of_lines_moved, lines_moved, moved_to_end, put_in_order}

plus_one : (n : ℕ) → suc n ≡ n + 1
plus_one n = omega arith

-- ---- one time more

module _ {A : Type 0} where
  pub first_moved_more : (count : ℕ) (items : List A) → moved_to_end 0 (first_moved count items) ≡ first_moved (count + 1) items
  unfolding first_moved
  first_moved_more count items = ap (λ (n : ℕ). first_moved n items) (plus_one count)

  pub first_moved_none : (items : List A) → items ≡ first_moved 0 items
  unfolding first_moved
  first_moved_none items = refl

  pub first_of_lines_moved_none : (left : ℕ) (items : List A) → items ≡ first_of_lines_moved left 0 items
  unfolding first_of_lines_moved
  first_of_lines_moved_none left items = refl

  pub lines_moved_none : (items : List A) → items ≡ lines_moved 0 items
  unfolding lines_moved
  lines_moved_none items = refl

  pub first_of_lines_moved_more : (left line : ℕ) (items : List A) → moved_to_end (1 + (6 - line) * left) (first_of_lines_moved left line items) ≡ first_of_lines_moved left (line + 1) items
  unfolding first_of_lines_moved
  first_of_lines_moved_more left line items = ap (λ (n : ℕ). first_of_lines_moved left n items) (plus_one line)

  pub lines_moved_more : (moved : ℕ) (items : List A) → first_of_lines_moved (8 - moved) 7 (lines_moved moved items) ≡ lines_moved (moved + 1) items
  unfolding lines_moved
  lines_moved_more moved items = ap (λ (n : ℕ). lines_moved n items) (plus_one moved)

-- ---- moves are those of the places

module _ {A B : Type 0} (f : A → B) where
  pub moved_to_end-map : (place : ℕ) (items : List A) → moved_to_end place (map f items) ≡ map f (moved_to_end place items)
  moved_to_end-map place items =
      ap (λ (l : List B). (l ++ drop (suc place) (map f items)) ++ take 1 (drop place (map f items))) (take-map f place items)
      ∙ ap (λ (l : List B). (map f (take place items) ++ l) ++ take 1 (drop place (map f items))) (drop-map f (suc place) items)
      ∙ ap (λ (l : List B). l ++ take 1 (drop place (map f items))) (sym (map-append f (take place items) (drop (suc place) items)))
      ∙ ap (λ (l : List B). map f (remove items place) ++ take 1 l) (drop-map f place items)
      ∙ ap (λ (l : List B). map f (remove items place) ++ l) (take-map f 1 (drop place items))
      ∙ sym (map-append f (remove items place) (take 1 (drop place items)))

  first_moved-map : (count : ℕ) (items : List A) → first_moved count (map f items) ≡ map f (first_moved count items)
  unfolding first_moved
  first_moved-map zero items = refl
  first_moved-map (suc count) items = ap (moved_to_end 0) (first_moved-map count items) ∙ moved_to_end-map 0 (first_moved count items)

  first_of_lines_moved-map : (left line : ℕ) (items : List A) → first_of_lines_moved left line (map f items) ≡ map f (first_of_lines_moved left line items)
  unfolding first_of_lines_moved
  first_of_lines_moved-map left zero items = refl
  first_of_lines_moved-map left (suc line) items =
      ap (moved_to_end (1 + (6 - line) * left)) (first_of_lines_moved-map left line items)
      ∙ moved_to_end-map (1 + (6 - line) * left) (first_of_lines_moved left line items)

  lines_moved-map : (moved : ℕ) (items : List A) → lines_moved moved (map f items) ≡ map f (lines_moved moved items)
  unfolding lines_moved
  lines_moved-map zero items = refl
  lines_moved-map (suc moved) items =
      ap (first_of_lines_moved (8 - moved) 7) (lines_moved-map moved items) ∙ first_of_lines_moved-map (8 - moved) 7 (lines_moved moved items)

  put_in_order-map : (items : List A) → put_in_order (map f items) ≡ map f (put_in_order items)
  put_in_order-map items =
      ap (λ (l : List B). moved_to_end 0 (lines_moved 8 l)) (first_moved-map 7 items)
      ∙ ap (moved_to_end 0) (lines_moved-map 8 (first_moved 7 items))
      ∙ moved_to_end-map 0 (lines_moved 8 (first_moved 7 items))

-- ---- one move

module _ {A : Type 0} where
  pub stays : (place : ℕ) (items : List A) → length items ≤ place → moved_to_end place items ≡ items
  stays place items above =
      ap (λ (l : List A). (l ++ drop (suc place) items) ++ take 1 (drop place items)) (take_all place items above)
      ∙ ap (λ (l : List A). (items ++ l) ++ take 1 (drop place items)) (drop_all (suc place) items (omega (arith, above)))
      ∙ ap (λ (l : List A). (items ++ []) ++ take 1 l) (drop_all place items above)
      ∙ append-nil (items ++ [])
      ∙ append-nil items

  pub one_at : (place : ℕ) (items : List A) (item : A) → place < length items → item ≡ slice_index_or items place item → take 1 (drop place items) ≡ item ∷ []
  one_at place [] item inside is = absurd (omega (arith, inside))
  one_at zero (first ∷ rest) item inside is = ap (λ (it : A). it ∷ []) (sym is)
  one_at (suc place) (first ∷ rest) item inside is = one_at place rest item (omega (arith, inside)) is

-- ---- all moves

module _ {A B : Type 0} (f : A → B) where
  pub map_reversed : (items : List A) → map f (reverse items) ≡ reverse (map f items)
  map_reversed [] = refl
  map_reversed (first ∷ rest) =
      ap (map f) (reverse-append (first ∷ []) rest)
      ∙ map-append f (reverse rest) (first ∷ [])
      ∙ ap (λ (l : List B). l ++ f first ∷ []) (map_reversed rest)
      ∙ sym (reverse-append (f first ∷ []) (map f rest))

module _ {A : Type 0} where
  pub got_from : (get : ℕ → Option A) (from : ℕ) (items : List A) → ((place : ℕ) → get (from + place) ≡ slice_get items place)
      → map get (range_with_len from (length items)) ≡ map Some items
  got_from get from [] gives = refl
  got_from get from (first ∷ rest) gives =
      ap (λ (it : Option A). it ∷ map get (range_with_len (from + 1) (length rest))) (ap get (omega arith) ∙ gives 0)
      ∙ ap (λ (l : List (Option A)). Some first ∷ l) (got_from get (from + 1) rest (λ place. ap get (omega arith) ∙ gives (suc place)))

  pub is_spread : (workers spread : List A) → length workers ≡ WORKERS → spread ≡ put_in_order workers → IsSpread workers spread
  unfolding first_moved first_of_lines_moved lines_moved
  is_spread workers spread all is =
      let get : ℕ → Option A = λ worker. slice_get workers worker in
      ap (λ (l : List A). map Some (reverse l)) is
      ∙ map_reversed Some (put_in_order workers)
      ∙ ap reverse (sym (put_in_order-map Some workers))
      ∙ ap (λ (l : List (Option A)). reverse (put_in_order l)) (sym (got_from get 0 workers (λ place. ap get (omega arith))))
      ∙ ap (λ (n : ℕ). reverse (put_in_order (map get (range_with_len 0 n)))) all
      ∙ ap reverse (put_in_order-map get (range_with_len 0 WORKERS))
      ∙ sym (map_reversed get (put_in_order (range_with_len 0 WORKERS)))
