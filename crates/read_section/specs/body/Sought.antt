-- What the search for a part needs, and what it finds.
use Rattle.std.specs.Prelude.{◌≡◌, ◌<◌, ◌≤◌, List, [], drop, length, slice_index, slice_index_or, take, ℕ}
use Rattle.config_image.specs.declared.TheConstants.{ROW_WORDS}
use Rattle.config_image.specs.Image.{Group, image, programs_begin}
use Rattle.config_image.specs.PageTable.{page_of, start_of}
use Rattle.config_image.specs.Pooled.{form_word, part_begin, parts, pooled_row}
use Rattle.versions.specs.declared.layout.TheConstants.{ROWS}
use Rattle.versions.specs.declared.view.Stage.TheVariants.{Inside}
use Rattle.versions.specs.declared.view.WorkerView.{WorkerView}
use Rattle.read_section.specs.body.Found.{HasPages, TellsOfHeld}

-- word i is one of the programs of a configuration, whose row is known
abbrev pub SoughtAt : List Group → List ℕ → ℕ → ℕ → ℕ → ℕ → Type 0
SoughtAt config pages r row form i =
    (row ≡ r) × (row < ROWS) × (length (image config) ≤ ROW_WORDS) × (form ≡ form_word config) × HasPages config pages
    × (programs_begin config ≤ i) × (i < length (image config))

-- the same of the version that is held
abbrev pub IsSought : WorkerView (List Group) → ℕ → ℕ → ℕ → Type 0
IsSought view row form i = (k : ℕ) × (n : ℕ) × (r : ℕ) × (view.stage ≡ Inside k n r) × (n < length view.seen) × SoughtAt (slice_index_or view.seen n []) view.pages r row form i

-- the page table entries in a row
abbrev pub entries_of : List Group → List ℕ → List ℕ
entries_of config pages = take (length (parts config)) (drop (programs_begin config) (pooled_row config pages))

-- the number is the page table entry of a part; or its start is the place after the last part
abbrev pub IsEntryOf : List Group → List ℕ → ℕ → ℕ → Type 0
IsEntryOf config pages index entry = (start_of entry ≡ part_begin config index) × (index < length (parts config) → page_of entry ≡ slice_index pages index)

abbrev pub TellsEntry : WorkerView (List Group) → ℕ → ℕ → Type 0
TellsEntry view index entry = TellsOfHeld (λ config pages. IsEntryOf config pages index entry) view
