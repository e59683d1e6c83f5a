-- Which pages are allocated to the programs of a version: those of equal programs of the version before, or free ones.
use Rattle.std.specs.Prelude.{◌≡◌, ◌+◌, ◌++◌, ◌<◌, ◌≤◌, ◌∷◌, List, Some, drop, flat_map, length, slice_get, take, ℕ}
use Rattle.config_image.specs.Image.{Group}
use Rattle.config_image.specs.Pooled.{pages_for, parts_of}
use Rattle.config_image.specs.Walk.{words_of_programs}
use Rattle.versions.specs.declared.view.OperatorView.{OperatorView}
use Rattle.versions.specs.Free.{IsFreePage}
use Rattle.versions.specs.Table.{the_shape}
use Rattle.read_section.specs.Operator.{IsCurrent, StandsIn}
use Rattle.retire.specs.Publish.{HasPages, RiseWhereFree, TakesFor, TakesPages, pages_of_each}

-- there is a page for each part of the programs
abbrev pub IsCounted : List (List ℕ) → List ℕ → Type 0
IsCounted programs pages = length pages ≡ length (flat_map parts_of programs)

-- the first of the programs has these words and these pages, and these are the programs and the pages behind it
pub record IsNext (programs : List (List ℕ)) (pages words own : List ℕ) (others : List (List ℕ)) (left : List ℕ) : Type 0 where
  pub first : programs ≡ words ∷ others
  pub front : own ≡ take (pages_for (length words)) pages
  pub behind : left ≡ drop (pages_for (length words)) pages

-- what stands there now stood there before
abbrev pub IsBehind : List (List ℕ) → List ℕ → List (List ℕ) → List ℕ → Type 0
IsBehind programs pages others left = (words own : List ℕ) → HasPages others left words own → HasPages programs pages words own

-- some programs were passed, and these are left
pub record IsPassing (programs : List (List ℕ)) (pages : List ℕ) (others : List (List ℕ)) (left : List ℕ) : Type 0 where
  pub counted : IsCounted programs pages
  pub left_counted : IsCounted others left
  pub behind : IsBehind programs pages others left

-- programs begin as those do that stand in these pages, and these are the pages of the first ones; the others are left
pub record Passes (programs current : List (List ℕ)) (pages own : List ℕ) (rest : List (List ℕ)) : Type 0 where
  pub same : List (List ℕ)
  pub left : List (List ℕ)
  pub programs_are : programs ≡ same ++ rest
  pub current_are : current ≡ same ++ left
  pub fits : length (flat_map parts_of same) ≤ length pages
  pub own_is : own ≡ take (length (flat_map parts_of same)) pages

-- ---- pages that are allocated one after the other

-- the pages that are allocated so far, and where the next free page is looked for
pub record AllocationValue : Type 0 where
  pub pages : List ℕ
  pub from : ℕ

-- those of them that are free rise, and they are all free pages before `from`
pub record IsAllocation (view : OperatorView (List Group)) (allocation : AllocationValue) : Type 0 where
  pub rise : RiseWhereFree view allocation.pages
  pub all : (q : ℕ) → IsFreePage the_shape view q → q < allocation.from → (j : ℕ) × (slice_get allocation.pages j ≡ Some q)
  pub below : (index page : ℕ) → slice_get allocation.pages index ≡ Some page → IsFreePage the_shape view page → page < allocation.from

abbrev pub AllFree : OperatorView (List Group) → List ℕ → Type 0
AllFree view pages = (index page : ℕ) → slice_get pages index ≡ Some page → IsFreePage the_shape view page

abbrev pub NoneFree : OperatorView (List Group) → List ℕ → Type 0
NoneFree view pages = (index page : ℕ) → slice_get pages index ≡ Some page → IsFreePage the_shape view page → ⊥

-- a program, with so many pages before its own, of which none is free
pub record IsBehindNoneFree (view : OperatorView (List Group)) (programs : List (List ℕ)) (pages words : List ℕ) (at : ℕ) : Type 0 where
  pub done : List (List ℕ)
  pub rest : List (List ℕ)
  pub programs_are : programs ≡ done ++ words ∷ rest
  pub counted : at ≡ length (flat_map parts_of done)
  pub inside : at ≤ length pages
  pub none : NoneFree view (take at pages)

-- so many free pages more
pub record AllocatesFree (view : OperatorView (List Group)) (before after : AllocationValue) (count : ℕ) : Type 0 where
  pub own : List ℕ
  pub counted : length own ≡ count
  pub free : AllFree view own
  pub pages : after.pages ≡ before.pages ++ own

-- the pages of one program more
pub record TakesOneMore (view : OperatorView (List Group)) (earlier : List (List ℕ)) (current_pages words : List ℕ) (before after : AllocationValue) : Type 0 where
  pub own : List ℕ
  pub counted : length own ≡ pages_for (length words)
  pub takes : TakesFor view earlier current_pages words own
  pub pages : after.pages ≡ before.pages ++ own

-- all programs but one take the pages that they had; so many pages are before those of this one
pub record ReplacesOne (view : OperatorView (List Group)) (earlier : List (List ℕ)) (current_pages words : List ℕ) (at : ℕ) (after : AllocationValue) : Type 0 where
  pub own : List ℕ
  pub counted : length own ≡ pages_for (length words)
  pub takes : TakesFor view earlier current_pages words own
  pub pages : after.pages ≡ (take at current_pages ++ own) ++ drop (at + pages_for (length words)) current_pages
  pub allocation : IsAllocation view (record { pages = take at current_pages ++ own; from = after.from })

-- the first of the programs take the pages of programs that have the same words; the others are left
pub record SharesRun (earlier : List (List ℕ)) (current_pages : List ℕ) (programs rest : List (List ℕ)) (before after : AllocationValue) : Type 0 where
  pub same : List (List ℕ)
  pub own : List ℕ
  pub programs_are : programs ≡ same ++ rest
  pub counted : IsCounted same own
  pub each : (index : ℕ) (words o : List ℕ) → slice_get same index ≡ Some words → slice_get (pages_of_each same own) index ≡ Some o → HasPages earlier current_pages words o
  pub allocation : after ≡ record { pages = before.pages ++ own; from = before.from }

-- pages are allocated to all programs of a configuration, beside those of the current version
pub record ChoosesPages (view : OperatorView (List Group)) (config : List Group) (pages : List ℕ) : Type 0 where
  pub earlier : List Group
  pub current : IsCurrent view earlier
  pub current_pages : List ℕ
  pub stands : StandsIn view earlier current_pages
  pub takes : TakesPages view (words_of_programs earlier) current_pages (words_of_programs config) pages
  pub counted : IsCounted (words_of_programs config) pages
