-- What a worker's cache tells of the version that its last pin gave, also outside a section.
use Rattle.std.specs.Prelude.{◌≡◌, ◌<◌, List, [], length, slice_index_or, ℕ}
use Rattle.config_image.specs.Image.{Group}
use Rattle.config_image.specs.declared.pages.cache.Extent.{Extent}
use Rattle.config_image.specs.Cache.{CacheValue, IsCached}
use Rattle.versions.specs.declared.view.Stage.TheVariants.{Inside}
use Rattle.versions.specs.declared.view.WorkerView.{WorkerView}
use Rattle.versions.specs.View.{last_pinned}
use Rattle.versions.specs.Table.{the_shape}
use Rattle.read_section.specs.body.Found.{IsExtentOf, IsFormOf}

-- the version that the cache is of, as the worker has seen it
abbrev pub cached_config : WorkerView (List Group) → CacheValue → List Group
cached_config view cache = slice_index_or view.seen cache.version []

-- the cache is of the version that the worker's last pin gave, or of version 0 before the first, and so of the one that it holds;
-- what it keeps is right for that version
pub record IsCacheOf (view : WorkerView (List Group)) (cache : CacheValue) : Type 0 where
  pub pinned : cache.version ≡ last_pinned the_shape.rows view.log
  pub seen : cache.version < length view.seen
  pub held : (k n r : ℕ) → view.stage ≡ Inside k n r → n ≡ cache.version
  pub form : 0 < cache.form → IsFormOf (cached_config view cache) view.pages cache.form
  pub extents : (extent : Extent) → IsCached cache extent → IsExtentOf (cached_config view cache) view.pages extent

-- a worker that has seen version 0, and made no pin
abbrev pub IsFirstSeen : WorkerView (List Group) → Type 0
IsFirstSeen view = (last_pinned the_shape.rows view.log ≡ 0) × (0 < length view.seen)

-- a cache of version 0 that keeps nothing
abbrev pub IsBlank : CacheValue → Type 0
IsBlank cache = (cache.version ≡ 0) × (cache.form ≡ 0) × ((extent : Extent) → IsCached cache extent → ⊥)
