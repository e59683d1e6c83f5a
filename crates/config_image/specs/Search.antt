-- The part of an image that contains a place, by the page table entries of a row, and a Search for it as contracts see it.
use Rattle.std.specs.Prelude.{◌≡◌, ◌+◌, ◌-◌, ◌/◌, ◌<◌, ◌≤◌, List, Some, length, slice_get, suc, zero, ℕ}
use Rattle.std.specs.List.{AllPairs}
use Rattle.config_image.specs.declared.pages.search.FoundPart.{FoundPart}
use Rattle.config_image.specs.declared.pages.search.Search.{Search}
use Rattle.config_image.specs.declared.TheConstants.{READ_LIMIT}
use Rattle.config_image.specs.PageTable.{entry_word, start_of}

-- a place is not before the first part, and before the end of the last
abbrev pub IsWithin : List ℕ → ℕ → ℕ → Type 0
IsWithin entries end place = (first : ℕ) × (slice_get entries 0 ≡ Some first) × (start_of first ≤ place) × (place < end)

-- a part contains a place: it starts there or before, and what follows it starts later: the next part, or the end
pub record HoldsPlace (entries : List ℕ) (end place : ℕ) (part : FoundPart) : Type 0 where
  pub named : slice_get entries part.index ≡ Some part.entry.0
  pub from : start_of part.entry.0 ≤ place
  pub to : place < start_of part.next.0
  pub next : (entry : ℕ) → slice_get entries (part.index + 1) ≡ Some entry → part.next.0 ≡ entry
  pub last : part.index + 1 ≡ length entries → part.next.0 ≡ entry_word end 0

-- the starts rise
abbrev pub StartsRise : List ℕ → Type 0
StartsRise entries = AllPairs (λ entry later. start_of entry < start_of later) entries

-- if the starts rise, at most one part contains a place
abbrev pub OnePartHolds : Type 0
OnePartHolds =
    (entries : List ℕ) (end place : ℕ) (part other : FoundPart) → StartsRise entries → HoldsPlace entries end place part → HoldsPlace entries end place other
    → part ≡ other

-- the indexes of the entries that the search may still ask for, and how many there are
abbrev pub IsOpen : Search → ℕ → Type 0
IsOpen search index = (search.low ≤ index) × (index < search.high)

abbrev pub unread : Search → ℕ
unread search = search.high - search.low

-- the index of the entry that the search asks for, the middle one of these
abbrev pub asked : Search → ℕ
asked search = search.low + (search.high - search.low) / 2

-- how many binary digits a number has, if so many suffice
unfoldable pub digits : ℕ → ℕ → ℕ
digits zero number = 0
digits (suc most) zero = 0
digits (suc most) (suc number) = suc (digits most (suc number / 2))

-- how many entries the search still asks for at most: each entry that it is given halves those that are left
unfoldable pub reads_left : Search → ℕ
reads_left search = digits READ_LIMIT (unread search)

-- the search is over the entries of this list, and looks for the part that contains the place: the entry before `low` starts at the
-- place or before it; the entry at `high`, or after the last one the end, starts later
pub record IsSearchOf (entries : List ℕ) (end place : ℕ) (search : Search) : Type 0 where
  pub within : IsWithin entries end place
  pub greatest : search.greatest ≡ entry_word place 0xffff
  pub inside : search.high ≤ length entries
  pub not_none : 0 < search.high
  pub named : 0 < search.low → slice_get entries (search.low - 1) ≡ Some search.entry
  pub from : 0 < search.low → start_of search.entry ≤ place
  pub to : place < start_of search.next
  pub next : (entry : ℕ) → slice_get entries search.high ≡ Some entry → search.next ≡ entry
  pub last : search.high ≡ length entries → search.next ≡ entry_word end 0
