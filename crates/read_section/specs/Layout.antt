-- The configurations that fit a row, and the place from which a row is known to be 0.
use Rattle.std.specs.Prelude.{◌≡◌, ◌*◌, ◌+◌, ◌<◌, ◌≤◌, List, slice_index, ℕ}
use Rattle.config_image.specs.declared.TheConstants.{ROW_WORDS}
use Rattle.config_image.specs.Image.{Group}
use Rattle.member_group.specs.Charge.{charge_of}
use Rattle.member_group.specs.Group.{IsConfig}
use Rattle.versions.specs.declared.layout.TheConstants.{CHARGE_LIMIT}
use Rattle.versions.specs.declared.view.OperatorView.{OperatorView}
use Rattle.versions.specs.Layout.{HoldsForm}
use Rattle.versions.specs.Table.{the_shape}

-- a configuration whose image fits a row
abbrev pub IsPublishable : List Group → Type 0
IsPublishable config = IsConfig config × (charge_of config ≤ CHARGE_LIMIT)

-- the row of the operator's words and some pages contain the configuration in the pooled form. The row names just these pages
-- (`versions::pooled_form_stands`)
abbrev pub HoldsConfig : OperatorView (List Group) → ℕ → List Group → Type 0
HoldsConfig view r config = (pages : List ℕ) × HoldsForm the_shape 0 view.stored r config pages

-- the words of a row are 0 from a place on
abbrev pub IsZeroFrom : OperatorView (List Group) → ℕ → ℕ → Type 0
IsZeroFrom view r from = (i : ℕ) → from ≤ i → i < ROW_WORDS → slice_index view.stored (r * ROW_WORDS + i) ≡ 0
