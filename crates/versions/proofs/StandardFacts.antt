-- The limits, and worked examples: a table of two workers and two rows of two words, where a configuration is the list of its words.
use Rattle.std.proofs.Common.{◌≡◌, ◌∷◌, ℕ, List, [], arith, inl, length, map, refl, ⊎_elim}
use Rattle.versions.specs.declared.layout.TheConstants.{CHARGE_LIMIT, LAST_NUMBER, ROWS, WORKERS}
use Rattle.versions.specs.declared.step.Entry.{Entry}
use Rattle.versions.specs.declared.step.Event.{Event}
use Rattle.versions.specs.declared.step.Event.TheVariants.{Proposed, Stepped}
use Rattle.versions.specs.declared.step.Step.TheVariants.{Announce, Fill, Leave, Peek, Pin, Publish, Scan}
use Rattle.versions.specs.declared.view.Stage.TheVariants.{Inside, Outside}
use Rattle.versions.specs.declared.view.WorkerView.{WorkerView}
use Rattle.versions.specs.Layout.{Form, Shape, current_word, page_begin, row_begin}
use Rattle.versions.specs.Step.{entry, place_of}
use Rattle.versions.specs.View.{last_pinned, last_seen, read_word_after, stage_after, up_to}
use Rattle.versions.specs.Free.{IsScannedClear, number_after}
use Rattle.versions.specs.State.{State, start_of, state_after}

-- the limits of the table
workers : WORKERS ≡ 64
workers = refl

rows : ROWS ≡ 16
rows = refl

charge_limit : CHARGE_LIMIT ≡ 8192
charge_limit = refl

last_number : LAST_NUMBER ≡ 281474976710656
last_number = refl

abbrev all_in_row : Form (List ℕ)
all_in_row = record { row = λ config pages. config; parts = λ config. []; named = λ words. [] }

abbrev small : Shape (List ℕ)
small = record { workers = 2; rows = 2; row_words = 2; pages = 0; page_words = 2; last_number = 100; charge_limit = 2; charge = length; form = all_in_row }

-- worker 1 enters at version 0; version 1 is proposed, filled into row 1 and published; the newest event comes first
abbrev entered : List (Event (List ℕ))
entered = Stepped (Pin 1) 0 ∷ Stepped (Announce 1) 1 ∷ Stepped (Peek 1) 0 ∷ []

abbrev published_beside : List (Event (List ℕ))
published_beside = Stepped (Publish 1) 3 ∷ Stepped (Fill 6 9) 9 ∷ Stepped (Fill 5 8) 8 ∷ Proposed (8 ∷ 9 ∷ []) ∷ entered

abbrev after : List (Event (List ℕ)) → State (List ℕ)
after trace = state_after small (start_of small (6 ∷ 7 ∷ []) (6 ∷ 7 ∷ 0 ∷ 0 ∷ [])) trace

-- version 5 in row 1, and the second row
current_of_version : current_word small 5 1 ≡ 11
current_of_version = refl

second_row : row_begin small 1 ≡ 5
second_row = refl

-- the words at the start, and after the publication: `current`, two read words, two rows
words_at_start : (after []).words ≡ 0 ∷ 0 ∷ 0 ∷ 6 ∷ 7 ∷ 0 ∷ 0 ∷ []
words_at_start = refl

words_after : (after published_beside).words ≡ 3 ∷ 0 ∷ 1 ∷ 6 ∷ 7 ∷ 8 ∷ 9 ∷ []
words_after = refl

published_after : (after published_beside).operator.published ≡ (6 ∷ 7 ∷ []) ∷ (8 ∷ 9 ∷ []) ∷ []
published_after = refl

rows_after : (after published_beside).operator.version_rows ≡ 0 ∷ 1 ∷ []
rows_after = refl

-- the places of steps: `current`, a worker's own read word
place_of_pin : place_of (Pin 7) ≡ 0
place_of_pin = refl

place_of_leave : place_of (Leave 7) ≡ 8
place_of_leave = refl

-- sixteen rows: a peek of version 3 in row 3, its announce, and a pin of version 90 in row 14
abbrev stalled : List Entry
stalled = entry (Pin 0) 1454 ∷ entry (Announce 0) 4 ∷ entry (Peek 0) 51 ∷ []

stage_of_stalled : stage_after 16 stalled ≡ Inside 4 90 14
stage_of_stalled = refl

seen_by_stalled : last_seen 16 stalled ≡ 90
seen_by_stalled = refl

read_word_of_stalled : read_word_after stalled ≡ 4
read_word_of_stalled = refl

-- a peek inside tells a newer version, and the section stays as it is
peek_inside : stage_after 16 (entry (Peek 0) 1467 ∷ stalled) ≡ Inside 4 90 14
peek_inside = refl

-- after a leave an announce needs a peek of its own
leave_forgets : stage_after 16 (entry (Leave 0) 0 ∷ entry (Peek 0) 1467 ∷ stalled) ≡ Outside
leave_forgets = refl

-- versions 0 to 2 of four
front_of_versions : up_to {C = ℕ} 2 (10 ∷ 11 ∷ 12 ∷ 13 ∷ []) ≡ 10 ∷ 11 ∷ 12 ∷ []
front_of_versions = refl

-- a scan after the publication clears version 0, one before it does not
number_of_two : number_after (entry (Publish 2) 34 ∷ entry (Scan 1) 0 ∷ entry (Publish 1) 17 ∷ []) ≡ 2
number_of_two = refl

scan_before_publication : IsScannedClear 0 0 (entry (Publish 1) 17 ∷ entry (Scan 1) 0 ∷ []) → ⊥
scan_before_publication h = ⊎_elim (λ t. let replaced = t.1 in omega arith) (λ none. none) h

scan_after_publication : IsScannedClear 0 0 (entry (Scan 1) 0 ∷ entry (Publish 1) 17 ∷ [])
scan_after_publication = inl (refl, omega arith, inl refl)

-- a table with a pool: one word a row, which names the page of the configuration's words, and four pages of two words
abbrev paged : Shape (List ℕ)
paged = record {
  workers = 2;
  rows = 2;
  row_words = 1;
  pages = 4;
  page_words = 2;
  last_number = 100;
  charge_limit = 2;
  charge = length;
  form = record { row = λ config pages. pages; parts = λ config. config ∷ []; named = λ words. words };
}

-- version 0 is in page 2; version 1 is filled into page 3 and row 1, and published
abbrev after_paged : List (Event (List ℕ)) → State (List ℕ)
after_paged trace = state_after paged (start_of paged (6 ∷ 7 ∷ []) (2 ∷ 0 ∷ 0 ∷ 0 ∷ 0 ∷ 0 ∷ 6 ∷ 7 ∷ 0 ∷ 0 ∷ [])) trace

abbrev published_in_page : List (Event (List ℕ))
published_in_page = Stepped (Publish 1) 3 ∷ Stepped (Fill 4 3) 3 ∷ Stepped (Fill 12 9) 9 ∷ Stepped (Fill 11 8) 8 ∷ Proposed (8 ∷ 9 ∷ []) ∷ entered

third_page : page_begin paged 3 ≡ 11
third_page = refl

words_in_pages : (after_paged published_in_page).words ≡ 3 ∷ 0 ∷ 1 ∷ 2 ∷ 3 ∷ 0 ∷ 0 ∷ 0 ∷ 0 ∷ 6 ∷ 7 ∷ 8 ∷ 9 ∷ []
words_in_pages = refl

pages_after : (after_paged published_in_page).operator.version_pages ≡ (2 ∷ []) ∷ (3 ∷ []) ∷ []
pages_after = refl

-- a pin tells the pages of the version that it gives
pages_pinned : map (λ (view : WorkerView (List ℕ)). view.pages) (after_paged (Stepped (Pin 0) 3 ∷ Stepped (Announce 0) 2 ∷ Stepped (Peek 0) 3 ∷ published_in_page)).workers ≡ (3 ∷ []) ∷ (2 ∷ []) ∷ []
pages_pinned = refl

pinned_by_stalled : last_pinned 16 (entry (Peek 0) 1467 ∷ stalled) ≡ 90
pinned_by_stalled = refl
