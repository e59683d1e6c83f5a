-- What fills of a row and of pages leave.
use Rattle.std.specs.Prelude.{◌≡◌, ◌≢◌, ◌⊎◌, ◌+◌, ◌++◌, ◌*◌, ◌/◌, ◌%◌, ◌<◌, ◌∷◌, List, Some, [], drop, length, slice_get, slice_index, take, ℕ}
use Rattle.std.specs.List.{Contains}
use Rattle.config_image.specs.declared.TheConstants.{PAGE_WORDS, ROW_WORDS}
use Rattle.config_image.specs.Image.{Group}
use Rattle.config_image.specs.PageTable.{entry_word, start_of}
use Rattle.config_image.specs.Pooled.{ArePages, pages_for, parts, parts_of, pooled_row}
use Rattle.versions.specs.declared.layout.TheConstants.{PAGES, ROWS}
use Rattle.versions.specs.declared.step.Entry.{Entry}
use Rattle.versions.specs.declared.view.OperatorView.{OperatorView}
use Rattle.versions.specs.declared.step.Step.TheVariants.{Fill}
use Rattle.versions.specs.Step.{entry}
use Rattle.versions.specs.Free.{IsFreePage, IsFreeRow, number_after}
use Rattle.versions.specs.Layout.{page_begin, stored_words}
use Rattle.versions.specs.Table.{the_shape}
use Rattle.read_section.specs.Operator.{OperatorValue, filled}
use Rattle.retire.specs.Publish.{IsFillOf, KeepsOtherPages, KeepsOtherRows, RiseWhereFree}
use Rattle.retire.specs.body.Allocation.{AllFree, ChoosesPages, NoneFree}

-- fills, and no other step: each is one of these. What was free is free still, and no other page is
pub record Fills (before after : OperatorValue) (IsFill : Entry → Type 0) : Type 0 where
  pub fills : List Entry
  pub filled : (newest : Entry) → Contains fills newest → IsFill newest
  pub log : after.view.log ≡ fills ++ before.view.log
  pub free_rows : (r : ℕ) → IsFreeRow the_shape before.view r → IsFreeRow the_shape after.view r
  pub free_pages : (q : ℕ) → IsFreePage the_shape before.view q → IsFreePage the_shape after.view q
  pub were_free : (q : ℕ) → IsFreePage the_shape after.view q → IsFreePage the_shape before.view q
  pub number : number_after after.view.log ≡ number_after before.view.log
  pub published : after.view.published ≡ before.view.published
  pub version_rows : after.view.version_rows ≡ before.view.version_rows
  pub version_pages : after.view.version_pages ≡ before.view.version_pages
  pub scanned_logs : after.view.scanned_logs ≡ before.view.scanned_logs
  pub table : after.table ≡ before.table
  pub reported : after.reported ≡ before.reported

-- the words of the whole pool, and those of all rows, are as they were
abbrev pub KeepsPool : OperatorValue → OperatorValue → Type 0
KeepsPool before after = (q k : ℕ) → q < PAGES → k < PAGE_WORDS
    → slice_index after.view.stored (ROWS * ROW_WORDS + (q * PAGE_WORDS + k)) ≡ slice_index before.view.stored (ROWS * ROW_WORDS + (q * PAGE_WORDS + k))

abbrev pub KeepsRows : OperatorValue → OperatorValue → Type 0
KeepsRows before after = (q i : ℕ) → q < ROWS → i < ROW_WORDS → slice_index after.view.stored (q * ROW_WORDS + i) ≡ slice_index before.view.stored (q * ROW_WORDS + i)

-- a word is stored at a place of a row, unless it stands there
abbrev pub FillsOther : OperatorValue → OperatorValue → ℕ → ℕ → ℕ → Type 0
FillsOther before after r place word =
    ((slice_index before.view.stored (r * ROW_WORDS + place) ≢ word) × (length before.view.stored ≡ stored_words the_shape) × (after ≡ filled r place word before))
    ⊎ ((slice_index before.view.stored (r * ROW_WORDS + place) ≡ word) × (after ≡ before))

-- a word of a row is as it was, or as a list has it
abbrev pub KeptOrFilled : OperatorValue → OperatorValue → ℕ → List ℕ → ℕ → Type 0
KeptOrFilled before after r words i =
    (slice_index after.view.stored (r * ROW_WORDS + i) ≡ slice_index before.view.stored (r * ROW_WORDS + i))
    ⊎ ((i < length words) × (slice_index after.view.stored (r * ROW_WORDS + i) ≡ slice_index words i))

-- fills of places of a free row by the words that a list has there
pub record FillsFrom (before after : OperatorValue) (r : ℕ) (words : List ℕ) : Type 0 where
  pub steps : Fills before after (IsFillOf before.view.stored r words)
  pub either : (i : ℕ) → i < ROW_WORDS → KeptOrFilled before after r words i
  pub others : KeepsOtherRows r before after
  pub pool : KeepsPool before after
  pub still_free : IsFreeRow the_shape after.view r

-- the list is a configuration's row, where its parts stand in these pages
abbrev pub FillsRow : OperatorValue → OperatorValue → ℕ → List Group → List ℕ → Type 0
FillsRow before after r config pages = FillsFrom before after r (pooled_row config pages)

-- the row has the list's words then
abbrev pub HoldsRow : OperatorValue → ℕ → List ℕ → Type 0
HoldsRow operator r words = (i : ℕ) → i < ROW_WORDS → slice_index operator.view.stored (r * ROW_WORDS + i) ≡ slice_index words i

-- the row begins with the list then
pub record FillsFront (before after : OperatorValue) (r : ℕ) (words : List ℕ) : Type 0 where
  pub fills : FillsFrom before after r words
  pub front : (i : ℕ) → i < length words → slice_index after.view.stored (r * ROW_WORDS + i) ≡ slice_index words i

-- the first n words of a row are the list's
abbrev pub HoldsFront : OperatorValue → ℕ → List ℕ → ℕ → Type 0
HoldsFront operator r words n = (i : ℕ) → i < n → slice_index operator.view.stored (r * ROW_WORDS + i) ≡ slice_index words i

-- the first n words of row r are those of another row, which begins as a list of the words of a row does
abbrev pub CopiesFront : OperatorValue → OperatorValue → ℕ → ℕ → ℕ → Type 0
CopiesFront before after r from n = (words : List ℕ) → length words ≡ ROW_WORDS → HoldsFront before from words n → FillsFrom before after r words × HoldsFront after r words n

-- the other row's names from a place on are the list's, but for their pages, which are these
abbrev pub HasNames : OperatorValue → ℕ → ℕ → List ℕ → List ℕ → Type 0
HasNames operator from begin pages words = (index page : ℕ) → slice_get pages index ≡ Some page
    → entry_word (start_of (slice_index operator.view.stored (from * ROW_WORDS + (begin + index)))) page ≡ slice_index words (begin + index)

-- where row r was filled by a list's words up to that place, it is filled by its names, too
abbrev pub FillsNames : OperatorValue → OperatorValue → ℕ → ℕ → ℕ → List ℕ → Type 0
FillsNames before after r from begin pages = (first : OperatorValue) (words : List ℕ) → length words ≡ ROW_WORDS → HasNames before from begin pages words
    → FillsFrom first before r words → HoldsFront before r words begin → FillsFrom first after r words × HoldsFront after r words (begin + length pages)

-- ---- pages

-- pages that are free and rise
pub record AreFreePages (operator : OperatorValue) (pages : List ℕ) : Type 0 where
  pub free : (index page : ℕ) → slice_get pages index ≡ Some page → IsFreePage the_shape operator.view page
  pub rise : (index later page other : ℕ) → index < later → slice_get pages index ≡ Some page → slice_get pages later ≡ Some other → page < other

-- a fill of a page that was free by a word of a part
pub record IsFillOfPart (before : OperatorValue) (pages : List ℕ) (cut : List (List ℕ)) (newest : Entry) : Type 0 where
  pub index : ℕ
  pub page : ℕ
  pub k : ℕ
  pub x : ℕ
  pub part : List ℕ
  pub page_is : slice_get pages index ≡ Some page
  pub free : IsFreePage the_shape before.view page
  pub part_is : slice_get cut index ≡ Some part
  pub word_is : slice_get part k ≡ Some x
  pub fill : newest ≡ entry (Fill (page_begin the_shape page + k) x) x

-- the words of parts stand in pages
abbrev pub PartsAre : OperatorValue → List ℕ → List (List ℕ) → Type 0
PartsAre operator pages cut = (index page k x : ℕ) (part : List ℕ) → slice_get pages index ≡ Some page → slice_get cut index ≡ Some part → slice_get part k ≡ Some x
    → slice_index operator.view.stored (ROWS * ROW_WORDS + (page * PAGE_WORDS + k)) ≡ x

-- fills of pages by words of parts, some or all
pub record FillsPages (before after : OperatorValue) (pages : List ℕ) (cut : List (List ℕ)) : Type 0 where
  pub steps : Fills before after (IsFillOfPart before pages cut)
  pub rows : KeepsRows before after
  pub others : KeepsOtherPages before.view pages before after

-- all of them
pub record FillsParts (before after : OperatorValue) (pages : List ℕ) (cut : List (List ℕ)) : Type 0 where
  pub fills : FillsPages before after pages cut
  pub standing : PartsAre after pages cut

-- the first n words of a program stand in its pages
abbrev pub BeginsIn : OperatorValue → List ℕ → List ℕ → ℕ → Type 0
BeginsIn operator pages words n = (j : ℕ) → j < n
    → slice_index operator.view.stored (ROWS * ROW_WORDS + (slice_index pages (j / PAGE_WORDS) * PAGE_WORDS + j % PAGE_WORDS)) ≡ slice_index words j

-- the words of a program stand in its pages, which lie in the pool and are not free
pub record StandsThere (operator : OperatorValue) (words own : List ℕ) : Type 0 where
  pub low : (index page : ℕ) → slice_get own index ≡ Some page → page < PAGES
  pub none_free : NoneFree operator.view own
  pub stand : PartsAre operator own (parts_of words)

-- a program can be filled into its pages, or stands there
pub record IsReady (operator : OperatorValue) (words own : List ℕ) : Type 0 where
  pub rise : RiseWhereFree operator.view own
  pub ready : AllFree operator.view own ⊎ StandsThere operator words own

-- so it is with programs one behind the other
abbrev pub EachIsReady : OperatorValue → List (List ℕ) → List ℕ → Type 0
EachIsReady operator [] pages = Unit {0}
EachIsReady operator (words ∷ rest) pages =
    (AllFree operator.view (take (pages_for (length words)) pages) ⊎ StandsThere operator words (take (pages_for (length words)) pages))
    × EachIsReady operator rest (drop (pages_for (length words)) pages)

-- those of the pages that are free are below this one
abbrev pub AreFreeBelow : OperatorView (List Group) → List ℕ → ℕ → Type 0
AreFreeBelow view pages end = (index page : ℕ) → slice_get pages index ≡ Some page → IsFreePage the_shape view page → page < end

-- and their free pages rise
pub record AreReady (operator : OperatorValue) (programs : List (List ℕ)) (pages : List ℕ) : Type 0 where
  pub each : EachIsReady operator programs pages
  pub rise : RiseWhereFree operator.view pages
  pub low : (index page : ℕ) → slice_get pages index ≡ Some page → page < PAGES

-- a program is filled into its free pages, and this is the page behind one of them
pub record FillsLast (before after : OperatorValue) (words own : List ℕ) (end : ℕ) : Type 0 where
  pub free : AllFree before.view own
  pub filled : FillsParts before after own (parts_of words)
  pub index : ℕ
  pub page : ℕ
  pub at : slice_get own index ≡ Some page
  pub last : page + 1 ≡ end

-- a program is filled into its free pages, or it stands there and nothing is done
abbrev pub FillsNew : OperatorValue → OperatorValue → List ℕ → List ℕ → Type 0
FillsNew before after words own = (AllFree before.view own × FillsParts before after own (parts_of words)) ⊎ (StandsThere before words own × (after ≡ before))

-- pages are chosen, the free ones are filled by a configuration's parts, and then a row by its words, where the parts stand in them
pub record FillsVersion (before after : OperatorValue) (r : ℕ) (config : List Group) (pages : List ℕ) : Type 0 where
  pub chosen : ChoosesPages before.view config pages
  pub low : (index page : ℕ) → slice_get pages index ≡ Some page → page < PAGES
  pub middle : OperatorValue
  pub parts_filled : FillsParts before middle pages (parts config)
  pub row_filled : FillsRow middle after r config pages
  pub row_held : HoldsRow after r (pooled_row config pages)
  pub are : ArePages config pages
