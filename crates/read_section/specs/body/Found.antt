-- What is known of where the words of the version stand that a worker holds.
use Rattle.std.specs.Prelude.{◌≡◌, ◌*◌, ◌+◌, ◌<◌, ◌≤◌, List, Some, [], length, slice_get, slice_index, slice_index_or, suc, ℕ}
use Rattle.std.specs.Coded.{×_prop, →_prop, Π_prop, Unit-prop, le_prop, Coded-set, coded_ℕ}
use Rattle.config_image.specs.declared.TheConstants.{ROW_WORDS}
use Rattle.config_image.specs.Image.{Group, image, programs_begin}
use Rattle.config_image.specs.Pooled.{form_word, part_begin, parts}
use Rattle.config_image.specs.declared.pages.cache.Extent.{Extent}
use Rattle.versions.specs.declared.layout.TheConstants.{PAGES, ROWS, ROWS_BEGIN}
use Rattle.versions.specs.declared.view.Stage.{Stage}
use Rattle.versions.specs.declared.view.Stage.TheVariants.{Announced, Inside, Outside, Peeked}
use Rattle.versions.specs.declared.view.WorkerView.{WorkerView}
use Rattle.versions.specs.Layout.{page_begin}
use Rattle.versions.specs.Table.{the_shape}

-- where a row begins, as it is computed
abbrev pub row_start : ℕ → ℕ
row_start row = ROWS_BEGIN + row * ROW_WORDS

-- each part has a page of the table
abbrev pub HasPages : List Group → List ℕ → Type 0
HasPages config pages = (length pages ≡ length (parts config)) × ((index page : ℕ) → slice_get pages index ≡ Some page → page < PAGES)

-- the number is the first word of the configuration's row
abbrev pub IsFormOf : List Group → List ℕ → ℕ → Type 0
IsFormOf config pages form = (form ≡ form_word config) × HasPages config pages

-- the words of the extent are words of the configuration's programs, and each stands where the extent tells: in the page of its part
abbrev pub IsExtentOf : List Group → List ℕ → Extent → Type 0
IsExtentOf config pages extent =
    (HasPages config pages × ((programs_begin config ≤ extent.at) × (extent.end ≤ length (image config))))
    × ((i index : ℕ) → extent.at ≤ i → i < extent.end → index < length (parts config) → part_begin config index ≤ i → i < part_begin config (index + 1)
    → part_begin config index + extent.shift ≡ page_begin the_shape (slice_index pages index))

-- the row is that of the version, which it has room for. What is kept of it is right: where its programs begin, unless that is 0,
-- and an extent, if that has a word
abbrev pub KnowsAt : List Group → List ℕ → ℕ → ℕ → ℕ → Extent → Type 0
KnowsAt config pages r row heads extent =
    ((row ≡ r) × (row < ROWS))
    × ((length (image config) ≤ ROW_WORDS) × ((0 < heads → (heads ≡ programs_begin config) × HasPages config pages) × (extent.at < extent.end → IsExtentOf config pages extent)))

-- of the version that is held, which the worker has seen; nothing where none is held
abbrev pub KnowsIn : Stage → List (List Group) → List ℕ → ℕ → ℕ → Extent → Type 0
KnowsIn (Inside read_word n r) seen pages row heads extent = (n < length seen) × KnowsAt (slice_index_or seen n []) pages r row heads extent
KnowsIn _ seen pages row heads extent = Unit {0}

abbrev pub Knows : WorkerView (List Group) → ℕ → ℕ → Extent → Type 0
Knows view row heads extent = KnowsIn view.stage view.seen view.pages row heads extent

abbrev pub no_extent : Extent
no_extent = record { version = 0; at = 0; end = 0; shift = 0 }

-- the row alone
abbrev pub KnowsRow : WorkerView (List Group) → ℕ → Type 0
KnowsRow view row = Knows view row 0 no_extent

-- a fact of the version that a worker holds, and of its pages: where one is held, and so that one is held
abbrev pub TellsOfHeld : (List Group → List ℕ → Type 0) → WorkerView (List Group) → Type 0
TellsOfHeld Fact view = (k n r : ℕ) → view.stage ≡ Inside k n r → Fact (slice_index_or view.seen n []) view.pages

abbrev pub HoldsOfHeld : (List Group → List ℕ → Type 0) → WorkerView (List Group) → Type 0
HoldsOfHeld Fact view = (k : ℕ) × (n : ℕ) × (r : ℕ) × (view.stage ≡ Inside k n r) × Fact (slice_index_or view.seen n []) view.pages

abbrev pub TellsForm : WorkerView (List Group) → ℕ → Type 0
TellsForm view form = TellsOfHeld (λ config pages. IsFormOf config pages form) view

abbrev pub IsFormIn : WorkerView (List Group) → ℕ → Type 0
IsFormIn view form = HoldsOfHeld (λ config pages. IsFormOf config pages form) view

abbrev pub TellsExtent : WorkerView (List Group) → Extent → Type 0
TellsExtent view extent = TellsOfHeld (λ config pages. IsExtentOf config pages extent) view

abbrev pub IsExtentIn : WorkerView (List Group) → Extent → Type 0
IsExtentIn view extent = HoldsOfHeld (λ config pages. IsExtentOf config pages extent) view

equal_prop : (a b : ℕ) → IsProp (a ≡ b)
equal_prop a b = Coded-set coded_ℕ a b

HasPages-prop : (config : List Group) (pages : List ℕ) → IsProp (HasPages config pages)
HasPages-prop config pages = ×_prop (equal_prop (length pages) (length (parts config))) (Π_prop (λ (index : ℕ). Π_prop (λ (page : ℕ). →_prop (le_prop {n = suc page} {m = PAGES}))))

IsExtentOf-prop : (config : List Group) (pages : List ℕ) (extent : Extent) → IsProp (IsExtentOf config pages extent)
IsExtentOf-prop config pages extent =
    let stands : IsProp ((i index : ℕ) → extent.at ≤ i → i < extent.end → index < length (parts config) → part_begin config index ≤ i → i < part_begin config (index + 1) → part_begin config index + extent.shift ≡ page_begin the_shape (slice_index pages index)) =
    Π_prop (λ (i : ℕ). Π_prop (λ (index : ℕ). →_prop (→_prop (→_prop (→_prop (→_prop (equal_prop (part_begin config index + extent.shift) (page_begin the_shape (slice_index pages index))))))))) in
    ×_prop (×_prop (HasPages-prop config pages) (×_prop (le_prop {n = programs_begin config} {m = extent.at}) (le_prop {n = extent.end} {m = length (image config)}))) stands

KnowsAt-prop : (config : List Group) (pages : List ℕ) (r row heads : ℕ) (extent : Extent) → IsProp (KnowsAt config pages r row heads extent)
KnowsAt-prop config pages r row heads extent =
    let head : IsProp (0 < heads → (heads ≡ programs_begin config) × HasPages config pages) = →_prop (×_prop (equal_prop heads (programs_begin config)) (HasPages-prop config pages)) in
    let found : IsProp (extent.at < extent.end → IsExtentOf config pages extent) = →_prop (IsExtentOf-prop config pages extent) in
    ×_prop (×_prop (equal_prop row r) (le_prop {n = suc row} {m = ROWS})) (×_prop (le_prop {n = length (image config)} {m = ROW_WORDS}) (×_prop head found))

pub KnowsIn-prop : (stage : Stage) (seen : List (List Group)) (pages : List ℕ) (row heads : ℕ) (extent : Extent) → IsProp (KnowsIn stage seen pages row heads extent)
KnowsIn-prop Outside seen pages row heads extent = Unit-prop
KnowsIn-prop (Peeked n) seen pages row heads extent = Unit-prop
KnowsIn-prop (Announced k) seen pages row heads extent = Unit-prop
KnowsIn-prop (Inside k n r) seen pages row heads extent = ×_prop (le_prop {n = suc n} {m = length seen}) (KnowsAt-prop (slice_index_or seen n []) pages r row heads extent)
