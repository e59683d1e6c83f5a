-- How what a world keeps goes with the events that were made in it.
use Rattle.std.specs.Prelude.{◌≡◌, ◌≤◌, List, MatchOption, None, Option, Some, length, reverse, slice_get, ℕ}
use Rattle.config_image.specs.Image.{Group}
use Rattle.versions.specs.declared.layout.TheConstants.{TABLE_WORDS}
use Rattle.versions.specs.declared.progress.Progress.{Progress}
use Rattle.versions.specs.declared.step.Step.{Step}
use Rattle.versions.specs.declared.step.Step.TheVariants.{Publish}
use Rattle.versions.specs.declared.step.Event.{Event}
use Rattle.versions.specs.declared.step.Event.TheVariants.{Proposed}
use Rattle.versions.specs.Legal.{IsLegal}
use Rattle.versions.specs.Pooled.{HasRoom}
use Rattle.versions.specs.Table.{the_shape}
use Rattle.versions.specs.World.{opened_with, world_after}
use Rattle.versions.specs.body.Mirror.{AllHaveRoom, IsMirror}

-- the place of the last proposal among the events, where nothing was published since
abbrev pub IsProposalAt : List (Event (List Group)) → Option (List Group) → Option ℕ → Type 0
IsProposalAt events proposal found =
    MatchOption found (proposal ≡ None) (λ i. (config : List Group) × (slice_get events i ≡ Some (Proposed config)) × (proposal ≡ Some config))

-- a publication uses the proposal up
abbrev pub proposal_by : Step → Option ℕ → Option ℕ
proposal_by (Publish r) found = None
proposal_by _ found = found

-- the events are legal, and the table, the numbers and the place tell the state after them
pub record IsWorld {A : Type 0} (config : List Group) (events : List (Event (List Group))) (table : List ℕ) (progress : Progress A) (found : Option ℕ) : Type 0 where
  pub charge : the_shape.charge config ≤ the_shape.charge_limit
  pub opened : HasRoom config
  pub room : AllHaveRoom (world_after config events)
  pub legal : IsLegal the_shape (opened_with config) (reverse events)
  pub mirror : IsMirror the_shape (world_after config events) table progress
  pub table_length : length table ≡ TABLE_WORDS
  pub proposed : IsProposalAt events (world_after config events).operator.proposal found
