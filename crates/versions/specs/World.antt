-- A world: the table after the events that were made in it.
use Rattle.std.specs.Prelude.{◌≡◌, ◌*◌, ◌++◌, ◌-◌, IsErrAnd, List, Result, flat_map, length, replicate, reverse, ℕ}
use Rattle.std.specs.List.{range_with_len}
use Rattle.config_image.specs.declared.TheConstants.{PAGE_WORDS}
use Rattle.config_image.specs.Image.{Group}
use Rattle.config_image.specs.Pooled.{pages_for, parts, pooled_row}
use Rattle.config_image.specs.Walk.{words_of_programs}
use Rattle.versions.specs.declared.step.Event.{Event}
use Rattle.versions.specs.Layout.{all_rows, stored_words}
use Rattle.versions.specs.State.{State, start_of, state_after}
use Rattle.versions.specs.Table.{the_shape}

-- `count` pages, from page 0 on
abbrev pub first_pages : ℕ → List ℕ
first_pages count = range_with_len 0 count

-- the words of a program in pages of its own: zeros come after them, up to the end of the last page
abbrev pub in_pages : List ℕ → List ℕ
in_pages words = words ++ replicate (pages_for (length words) * PAGE_WORDS - length words) 0

-- the words of the rows and the pool at the opening, up to the configuration's last page: its row is row 0, and its programs are
-- one after the other in the pool's first pages
abbrev pub opening_front : List Group → List ℕ
opening_front config =
    pooled_row config (first_pages (length (parts config))) ++ (replicate (all_rows the_shape - the_shape.row_words) 0 ++ flat_map in_pages (words_of_programs config))

-- all of it: zeros come after that page
abbrev pub opening_stored : List Group → List ℕ
opening_stored config = opening_front config ++ replicate (stored_words the_shape - length (opening_front config)) 0

abbrev pub opened_with : List Group → State (List Group)
opened_with config = start_of the_shape config (opening_stored config)

-- the state after a list of events, the oldest of which comes first
abbrev pub world_after : List Group → List (Event (List Group)) → State (List Group)
world_after config events = state_after the_shape (opened_with config) (reverse events)

-- a call failed, and this is the fault that it named
abbrev pub FailsWith : {V F : Type 0} → F → Result V F → Type 0
FailsWith fault result = IsErrAnd result (λ named. named ≡ fault)
