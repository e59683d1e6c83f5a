-- The extents in a cache, and the places that they are for.
use Rattle.std.specs.Prelude.{◌≡◌, ◌≢◌, ◌+◌, ◌/◌, ◌%◌, ◌<◌, ◌≤◌, List, ℕ}
use Rattle.std.specs.List.{Contains}
use Rattle.config_image.specs.declared.pages.cache.TheConstants.{SLOTS}
use Rattle.config_image.specs.declared.pages.cache.Extent.{Extent}

-- the version whose extents it has; the first word of its row, or 0 if it has none; and the slots, each with the extent that was
-- inserted last
pub record CacheValue : Type 0 where
  pub version : ℕ
  pub form : ℕ
  pub extents : List Extent

-- the slot of a place
abbrev pub slot_of : ℕ → ℕ
slot_of place = (place % SLOTS + place / SLOTS) % SLOTS

-- places that are less than 1023 apart have different slots
abbrev pub SlotsApart : Type 0
SlotsApart = (place later : ℕ) → place < later → later < place + 1023 → slot_of place ≢ slot_of later

-- a place of the image is in the extent
abbrev pub Holds : Extent → ℕ → Type 0
Holds extent place = (extent.at ≤ place) × (place < extent.end)

-- an extent that has a word, of the cache's version
abbrev pub IsCached : CacheValue → Extent → Type 0
IsCached cache extent = Contains cache.extents extent × (extent.version ≡ cache.version) × (extent.at < extent.end)
