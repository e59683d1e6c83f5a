-- A word in an extent that is found, or was: a few fetches or none, and one of the word.
use Rattle.std.proofs.Common.{◌≡◌, ℕ, ◌+◌, ◌-◌, ◌<◌, ◌≤◌, ◌^◌, [], Some, arith, length, refl, slice_get, slice_index_or, subst}
use Rattle.config_image.specs.declared.pages.cache.Extent.{Extent}
use Rattle.config_image.specs.Cache.{Holds}
use Rattle.versions.specs.declared.layout.TheConstants.{TABLE_WORDS}
use Rattle.versions.specs.declared.view.Stage.{Stage}
use Rattle.versions.specs.declared.view.Stage.TheVariants.{Announced, Inside, Outside, Peeked}
use Rattle.versions.specs.Safety.{IsHeldPlace}
use Rattle.versions.specs.View.{after_fetch}
use Rattle.versions.specs.Table.{the_shape}
use Rattle.read_section.specs.Reads.{Fetched, Reads}
use Rattle.versions.proofs.RowLemmas.{length-row}
use Rattle.read_section.specs.Section.{held_words, words_in}
use Rattle.read_section.specs.Worker.{WorkerValue, steps}
use Rattle.read_section.specs.body.Found.{IsExtentIn, IsExtentOf, Knows, KnowsRow, TellsExtent, no_extent}
use Rattle.read_section.specs.body.Steps.{SeesWord}
use Rattle.read_section.proofs.HeldWordLemmas.{config_held, held_stage, image_word_held, known_there, extent_place_held, extent_place_within, extent_word_told, same_version}
use Rattle.read_section.proofs.ReadLemmas.{held_after, read_last, sees_before}
use Rattle.read_section.proofs.RowReadLemmas.{extent_newest}

-- the extent is right for the version that is held, which the worker has seen
abbrev pub ExtentThere : WorkerValue → Extent → Type 0
ExtentThere worker extent = (k n r : ℕ) → worker.view.stage ≡ Inside k n r → (n < length worker.view.seen) × IsExtentOf (config_held worker n) worker.view.pages extent

pub extent_kept : (worker : WorkerValue) (row heads : ℕ) (extent : Extent) → Knows worker.view row heads extent → extent.at < extent.end → ExtentThere worker extent
extent_kept worker row heads extent knows some k n r stage = let known = known_there worker k n r stage row heads extent knows in (known.0, known.1.1.1.1 some)

pub extent_found : (worker : WorkerValue) (row heads : ℕ) (old extent : Extent) → Knows worker.view row heads old → TellsExtent worker.view extent → ExtentThere worker extent
extent_found worker row heads old extent knows told k n r stage = ((known_there worker k n r stage row heads old knows).0, told k n r stage)

pub extent_told : (worker : WorkerValue) (row : ℕ) (extent : Extent) → KnowsRow worker.view row → TellsExtent worker.view extent → ExtentThere worker extent
extent_told worker row extent knows told k n r stage = ((known_there worker k n r stage row 0 no_extent knows).0, told k n r stage)

pub tells_in : (worker : WorkerValue) (extent : Extent) → IsExtentIn worker.view extent → TellsExtent worker.view extent
tells_in worker extent is k n r stage = subst (λ m. IsExtentOf (config_held worker m) worker.view.pages extent) (same_version worker.view.stage is.0 is.1 is.2 k n r is.3 stage) is.4

-- its last word stands in the table
last_within : (worker : WorkerValue) (extent : Extent) → ExtentThere worker extent → (k n r : ℕ) → worker.view.stage ≡ Inside k n r → extent.at < extent.end → extent.shift + extent.end ≤ TABLE_WORDS
last_within worker extent is k n r stage some = let p = is k n r stage in let last = extent_place_within worker k n r stage extent p.0 p.1 (extent.end - 1) (omega arith, omega arith) in omega arith

pub extent_limit : (worker : WorkerValue) (extent : Extent) → ExtentThere worker extent → (k n r : ℕ) → worker.view.stage ≡ Inside k n r → extent.at < extent.end → extent.shift + extent.end < 2 ^ 64
extent_limit worker extent is k n r stage some = let last = last_within worker extent is k n r stage some in omega arith

-- so there is room behind it for numbers of words
pub extent_room : (worker : WorkerValue) (extent : Extent) → ExtentThere worker extent → extent.at < extent.end → extent.shift < 2 ^ 64 → extent.shift + length (held_words worker) < 2 ^ 64
extent_room worker extent is some small = go worker.view.stage refl
  where
    go : (stage : Stage) → worker.view.stage ≡ stage → extent.shift + length (words_in stage worker.view.seen) < 2 ^ 64
    go Outside e = omega arith
    go (Peeked n) e = omega arith
    go (Announced k) e = omega arith
    go (Inside k n r) e = let last = last_within worker extent is k n r e some in let words = length-row (slice_index_or worker.view.seen n []) in omega arith

module _ (worker : WorkerValue) (extent : Extent) (i : ℕ) (is : ExtentThere worker extent) (held : i < length (held_words worker)) (there : Holds extent i) where
  inside : (k : ℕ) × (n : ℕ) × (r : ℕ) × (worker.view.stage ≡ Inside k n r)
  inside = held_stage worker.view.stage worker.view.seen i held

  now : (inside.1 < length worker.view.seen) × IsExtentOf (config_held worker inside.1) worker.view.pages extent
  now = is inside.0 inside.1 inside.2 inside.3

  place_held : IsHeldPlace the_shape worker.view (extent.shift + i)
  place_held = extent_place_held worker inside.0 inside.1 inside.2 inside.3 extent now.0 now.1 i there

  pub extent_within : extent.shift + i < TABLE_WORDS
  extent_within = extent_place_within worker inside.0 inside.1 inside.2 inside.3 extent now.0 now.1 i there

  module _ (n : ℕ) (mid : WorkerValue) (f : Fetched n worker mid) where
    pub extent_held : IsHeldPlace the_shape mid.view (extent.shift + i)
    extent_held = held_after n worker mid f (extent.shift + i) place_held

    module _ (x : ℕ) where
      pub extent_value : SeesWord mid (extent.shift + i) x → slice_get (held_words worker) i ≡ Some x
      extent_value sees = image_word_held worker inside.0 inside.1 inside.2 inside.3 i x held
          (extent_word_told worker inside.0 inside.1 inside.2 inside.3 extent now.0 now.1 i there x (sees_before n worker mid f (extent.shift + i) x sees))

      pub extent_reads : (most : ℕ) (after : WorkerValue) → n < most → after ≡ steps (after_fetch (extent.shift + i) x) mid → Reads most i x worker after
      extent_reads most after few e = read_last n worker mid f after (extent.shift + i) x e place_held most i x few (extent_newest worker extent i is there x)
