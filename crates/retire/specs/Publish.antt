-- The steps of a publication: scans if no row is free, fills of one free row and of free pages, and one store of `current`.
use Rattle.std.specs.Prelude.{◌≡◌, ◌≢◌, ◌+◌, ◌++◌, ◌*◌, ◌<◌, ◌≤◌, ◌⊎◌, ◌∷◌, IsErrAnd, List, None, Result, Some, [], drop, length, slice_get, slice_index, take, ℕ}
use mathlib.Core.Option.{some}
use lib.ListN.{get_elem?}
use Rattle.std.specs.List.{Contains}
use Rattle.config_image.specs.declared.TheConstants.{PAGE_WORDS, ROW_WORDS}
use Rattle.config_image.specs.Image.{Group}
use Rattle.config_image.specs.Pooled.{pages_for, parts, pooled_row}
use Rattle.config_image.specs.Walk.{words_of_programs}
use Rattle.versions.specs.declared.layout.TheConstants.{PAGES, ROWS, WORKERS}
use Rattle.versions.specs.declared.view.OperatorView.{OperatorView}
use Rattle.versions.specs.declared.step.Step.TheVariants.{Fill, Publish}
use Rattle.versions.specs.declared.step.Entry.{Entry}
use Rattle.versions.specs.Layout.{HoldsForm, current_word, page_begin, row_begin}
use Rattle.versions.specs.Step.{entry}
use Rattle.versions.specs.Free.{IsFree, IsFreePage, IsFreeRow, IsReplaced, number_after}
use Rattle.versions.specs.Table.{the_shape}
use Rattle.read_section.specs.View.{TellsLog}
use Rattle.read_section.specs.Operator.{HasFreeRow, IsCurrent, OperatorValue, scanned}

-- the call refused, and this is the fault that it named
abbrev pub IsRefusedAs : {T F C : Type 0} → F → Result T (F × C) → Type 0
IsRefusedAs fault result = IsErrAnd result (λ refusal. refusal.0 ≡ fault)

-- the word that a scan loaded, and the log that it showed
pub record Scanned : Type 0 where
  pub word : ℕ
  pub log : List Entry

-- the operator after a scan of each worker from 0 on; the last scan comes first
abbrev pub after_scans : List Scanned → OperatorValue → OperatorValue
after_scans [] operator = operator
after_scans (last ∷ earlier) operator = scanned (length earlier) last.word last.log (after_scans earlier operator)

-- each scan showed a log of its worker
abbrev pub TellLogs : List Scanned → OperatorValue → Type 0
TellLogs [] operator = Unit {0}
TellLogs (last ∷ earlier) operator =
    TellLogs earlier operator × TellsLog the_shape (after_scans earlier operator).view (length earlier) last.word last.log

-- the read word of each worker was scanned, once, and nothing else was done
pub record ScansEach (before after : OperatorValue) : Type 0 where
  pub scans : List Scanned
  pub each : length scans ≡ WORKERS
  pub tell : TellLogs scans before
  pub no_more : after ≡ after_scans scans before

-- if a row is free nothing is scanned; otherwise the read word of each worker is, once
abbrev pub LooksForRow : OperatorValue → OperatorValue → Type 0
LooksForRow before after = (HasFreeRow before.view × (after ≡ before)) ⊎ ((HasFreeRow before.view → ⊥) × ScansEach before after)

-- a fill of a place of row r by the word that a list has there; another word is there in `stored`
pub record IsFillOf (stored : List ℕ) (r : ℕ) (words : List ℕ) (newest : Entry) : Type 0 where
  pub place : ℕ
  pub inside : place < length words
  pub differs : slice_index stored (r * ROW_WORDS + place) ≢ slice_index words place
  pub fill : newest ≡ entry (Fill (row_begin the_shape r + place) (slice_index words place)) (slice_index words place)

-- a fill of a free page by a word of the configuration's part that is there
pub record IsPartFill (view : OperatorView (List Group)) (config : List Group) (pages : List ℕ) (newest : Entry) : Type 0 where
  pub index : ℕ
  pub page : ℕ
  pub k : ℕ
  pub x : ℕ
  pub part : List ℕ
  pub page_is : slice_get pages index ≡ Some page
  pub free : IsFreePage the_shape view page
  pub part_is : slice_get (parts config) index ≡ Some part
  pub word_is : slice_get part k ≡ Some x
  pub fill : newest ≡ entry (Fill (page_begin the_shape page + k) x) x

-- a fill of the pooled form: of a word of row r that differs from the one that was there, or of a word of a part in a page that
-- was free
abbrev pub IsFormFill : OperatorView (List Group) → ℕ → List Group → List ℕ → Entry → Type 0
IsFormFill view r config pages newest = IsFillOf view.stored r (pooled_row config pages) newest ⊎ IsPartFill view config pages newest

-- the pages of each program, if the programs are in the pages one after the other
abbrev pub pages_of_each : List (List ℕ) → List ℕ → List (List ℕ)
pages_of_each [] pages = []
pages_of_each (words ∷ rest) pages = take (pages_for (length words)) pages ∷ pages_of_each rest (drop (pages_for (length words)) pages)

-- one of the programs in these pages has these words, and its own pages are these
abbrev pub HasPages : List (List ℕ) → List ℕ → List ℕ → List ℕ → Type 0
HasPages programs pages words own = (index : ℕ) × (slice_get programs index ≡ Some words) × (slice_get (pages_of_each programs pages) index ≡ Some own)

-- a program takes the pages of a program of the version before that has the same words, and free pages if there is none
abbrev pub TakesFor : OperatorView (List Group) → List (List ℕ) → List ℕ → List ℕ → List ℕ → Type 0
TakesFor view earlier current_pages words own =
    HasPages earlier current_pages words own ⊎ ((Contains earlier words → ⊥) × ((index page : ℕ) → slice_get own index ≡ Some page → IsFreePage the_shape view page))

-- those of the pages that are free rise
abbrev pub RiseWhereFree : OperatorView (List Group) → List ℕ → Type 0
RiseWhereFree view pages = (index later page other : ℕ) → index < later → slice_get pages index ≡ Some page → slice_get pages later ≡ Some other
    → IsFreePage the_shape view page → IsFreePage the_shape view other → page < other

-- the programs of a version take their pages, one program after the other, given the programs of the version before and their
-- pages; of the free pages they take the least ones, in order
pub record TakesPages (view : OperatorView (List Group)) (earlier : List (List ℕ)) (current_pages : List ℕ) (programs : List (List ℕ)) (pages : List ℕ) : Type 0 where
  pub each : (index : ℕ) (words own : List ℕ) → slice_get programs index ≡ Some words → slice_get (pages_of_each programs pages) index ≡ Some own → TakesFor view earlier current_pages words own
  pub rise : RiseWhereFree view pages
  pub least : (index page q : ℕ) → slice_get pages index ≡ Some page → IsFreePage the_shape view page → IsFreePage the_shape view q → q < page → (j : ℕ) × (slice_get pages j ≡ Some q)

-- the words of all rows except r are as they were
abbrev pub KeepsOtherRows : ℕ → OperatorValue → OperatorValue → Type 0
KeepsOtherRows r before after = (q i : ℕ) → (q ≡ r → ⊥) → q < ROWS → i < ROW_WORDS
    → slice_index after.view.stored (q * ROW_WORDS + i) ≡ slice_index before.view.stored (q * ROW_WORDS + i)

-- the words of all pages except those of these that were free are as they were
abbrev pub KeepsOtherPages : OperatorView (List Group) → List ℕ → OperatorValue → OperatorValue → Type 0
KeepsOtherPages view pages before after = (q k : ℕ) → ((index : ℕ) → slice_get pages index ≡ Some q → IsFreePage the_shape view q → ⊥) → q < PAGES → k < PAGE_WORDS
    → slice_index after.view.stored (ROWS * ROW_WORDS + (q * PAGE_WORDS + k)) ≡ slice_index before.view.stored (ROWS * ROW_WORDS + (q * PAGE_WORDS + k))

-- the least of the rows that are free
pub record IsLeastFreeRow (operator : OperatorValue) (r : ℕ) : Type 0 where
  pub free : IsFreeRow the_shape operator.view r
  pub least : (q : ℕ) → IsFreeRow the_shape operator.view q → r ≤ q

-- a configuration is published: a free row is looked for, and pages are taken for its parts, one for each, given the version that
-- is current. The free ones of these pages, and the words of the least free row that differ, are filled by words of the pooled
-- form, and the row is stored in `current` as that of the next version
pub record Publishes (before after : OperatorValue) (config : List Group) : Type 0 where
  pub found : OperatorValue
  pub looked : LooksForRow before found
  pub taken : ℕ
  pub least : IsLeastFreeRow found taken
  pub pages : List ℕ
  pub counted : length pages ≡ length (parts config)
  pub earlier : List Group
  pub current : IsCurrent before.view earlier
  pub current_pages : List ℕ
  pub named : get_elem? before.view.version_pages (number_after before.view.log) ≡ some current_pages
  pub takes : TakesPages found.view (words_of_programs earlier) current_pages (words_of_programs config) pages
  pub fills : List Entry
  pub filled : (newest : Entry) → Contains fills newest → IsFormFill found.view taken config pages newest
  pub log : after.view.log ≡ entry (Publish taken) (current_word the_shape (number_after before.view.log + 1) taken) ∷ (fills ++ found.view.log)
  pub published : after.view.published ≡ before.view.published ++ config ∷ []
  pub version_rows : after.view.version_rows ≡ before.view.version_rows ++ taken ∷ []
  pub version_pages : after.view.version_pages ≡ before.view.version_pages ++ pages ∷ []
  pub proposal : after.view.proposal ≡ None
  pub scanned_logs : after.view.scanned_logs ≡ found.view.scanned_logs
  pub table : after.table ≡ before.table
  pub reported : after.reported ≡ before.reported

-- no step is a fill of this page
abbrev pub IsUnfilled : List Entry → ℕ → Type 0
IsUnfilled steps page = (k x : ℕ) → k < PAGE_WORDS → Contains steps (entry (Fill (page_begin the_shape page + k) x) x) → ⊥

-- a program whose words equal those of a program of the version before has the pages of such a program, and none of them is filled
pub record SharesEqualPrograms (before after : OperatorValue) (config : List Group) : Type 0 where
  pub publication : Publishes before after config
  pub shared : (index : ℕ) (words own : List ℕ) → slice_get (words_of_programs config) index ≡ Some words → slice_get (pages_of_each (words_of_programs config) publication.pages) index ≡ Some own
      → Contains (words_of_programs publication.earlier) words → HasPages (words_of_programs publication.earlier) publication.current_pages words own
  pub unfilled : (index i page : ℕ) (words own : List ℕ) → slice_get (words_of_programs config) index ≡ Some words → slice_get (pages_of_each (words_of_programs config) publication.pages) index ≡ Some own
      → Contains (words_of_programs publication.earlier) words → slice_get own i ≡ Some page → IsUnfilled publication.fills page

-- the version that was published is in a row and in pages that contain the configuration now; no word of another row changed, nor
-- of another page or of one that was not free
pub record StandsInRow (before after : OperatorValue) (config : List Group) : Type 0 where
  pub found : OperatorValue
  pub looked : LooksForRow before found
  pub taken : ℕ
  pub pages : List ℕ
  pub version_rows : after.view.version_rows ≡ before.view.version_rows ++ taken ∷ []
  pub version_pages : after.view.version_pages ≡ before.view.version_pages ++ pages ∷ []
  pub holds : HoldsForm the_shape 0 after.view.stored taken config pages
  pub others : KeepsOtherRows taken before after
  pub other_pages : KeepsOtherPages found.view pages before after

-- some scan loaded a word from 1 to m + 1
abbrev pub HoldsBack : ℕ → List Scanned → Type 0
HoldsBack m scans = (scan : Scanned) × Contains scans scan × (0 < scan.word) × (scan.word ≤ m + 1)

-- no row was free, each read word was scanned, and still no row is free: a word that was scanned holds back each replaced
-- version that is not free
pub record IsBusy (before after : OperatorValue) : Type 0 where
  pub none_before : HasFreeRow before.view → ⊥
  pub scanned : ScansEach before after
  pub none : HasFreeRow after.view → ⊥
  pub held_back : (m : ℕ) → IsReplaced m after.view.log → (IsFree the_shape m after.view.log → ⊥) → HoldsBack m scanned.scans
