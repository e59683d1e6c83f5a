-- The moves that put workers in order.
use Rattle.std.specs.Prelude.{◌+◌, ◌-◌, ◌*◌, ◌++◌, List, drop, suc, take, zero, ℕ}
use Rattle.std.specs.List.{remove}

-- the element at a place is moved behind the others, if there is one
abbrev pub moved_to_end : {A : Type 0} → ℕ → List A → List A
moved_to_end place items = remove items place ++ take 1 (drop place items)

-- so many times the first
unfoldable pub first_moved : {A : Type 0} → ℕ → List A → List A
first_moved zero items = items
first_moved (suc count) items = moved_to_end 0 (first_moved count items)

-- the first of each of so many lines, the last line's first; each has `left` elements, and one element is before them
unfoldable pub first_of_lines_moved : {A : Type 0} → ℕ → ℕ → List A → List A
first_of_lines_moved left zero items = items
first_of_lines_moved left (suc line) items = moved_to_end (1 + (6 - line) * left) (first_of_lines_moved left line items)

-- so many times for seven lines, which have eight elements at first
unfoldable pub lines_moved : {A : Type 0} → ℕ → List A → List A
lines_moved zero items = items
lines_moved (suc moved) items = first_of_lines_moved (8 - moved) 7 (lines_moved moved items)

abbrev pub put_in_order : {A : Type 0} → List A → List A
put_in_order items = moved_to_end 0 (lines_moved 8 (first_moved 7 items))
