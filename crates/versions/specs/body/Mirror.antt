-- How what a world keeps beside its words goes with the state of the table, and what is said of the calls that use it.
use Rattle.std.specs.Prelude.{◌≡◌, List, MatchOption, Option, Some, length, replicate, slice_get, slice_index_or, slice_set, ℕ}
use mathlib.Core.Option.{some}
use lib.ListN.{get_elem?}
use Rattle.config_image.specs.Image.{Group}
use Rattle.versions.specs.declared.layout.TheConstants.{ROWS}
use Rattle.versions.specs.declared.progress.Progress.{Progress}
use Rattle.versions.specs.declared.step.Step.{Step}
use Rattle.versions.specs.declared.step.Step.TheVariants.{Publish}
use Rattle.versions.specs.declared.view.Stage.TheVariants.{Outside}
use Rattle.versions.specs.declared.view.WorkerView.{WorkerView}
use Rattle.versions.specs.Layout.{Shape}
use Rattle.versions.specs.View.{next_stage}
use Rattle.versions.specs.State.{State, after_step}
use Rattle.versions.specs.Legal.{IsLegalStep, IsReached}
use Rattle.versions.specs.Book.{IsBook, IsBookAtStart}
use Rattle.versions.specs.Pooled.{HasRoom}
use Rattle.versions.specs.Table.{the_shape}

module _ {C : Type 0} {A : Type 0} (shape : Shape C) where
  -- the words are the table's, and the numbers tell where each actor is
  pub record IsMirror (s : State C) (words : List ℕ) (progress : Progress A) : Type 0 where
    pub words_same : words ≡ s.words
    pub stages_length : length progress.stages ≡ shape.workers
    pub stages : (w : ℕ) (view : WorkerView C) → get_elem? s.workers w ≡ some view → slice_get progress.stages w ≡ Some view.stage
    pub book : IsBook shape s.operator progress.book

-- a word makes the step legal, and this one does; or none does
abbrev pub IsDecided : State (List Group) → Step → Option ℕ → Type 0
IsDecided s step found = MatchOption found ((x : ℕ) → IsLegalStep the_shape s step x → ⊥) (IsLegalStep the_shape s step)

-- rows have room for the configuration, where there is one
abbrev pub FitsRow : Option (List Group) → Type 0
FitsRow proposal = (config : List Group) → proposal ≡ Some config → HasRoom config

-- rows have room for all that was published or proposed
pub record AllHaveRoom (s : State (List Group)) : Type 0 where
  pub published : (n : ℕ) (config : List Group) → get_elem? s.operator.published n ≡ some config → HasRoom config
  pub proposed : FitsRow s.operator.proposal

-- it is decided what word the step loads or stores, in each state that the words and numbers mirror
abbrev pub Decides : {A : Type 0} → List ℕ → Progress A → Step → Option ℕ → Type 0
Decides words progress step found =
    (s : State (List Group)) → IsReached the_shape s → AllHaveRoom s → IsMirror the_shape s words progress → IsDecided s step found

-- the same, where this was proposed last
abbrev pub DecidesProposed : {A : Type 0} → List ℕ → Progress A → Option (List Group) → Step → Option ℕ → Type 0
DecidesProposed words progress proposal step found =
    (s : State (List Group)) → IsReached the_shape s → AllHaveRoom s → IsMirror the_shape s words progress → s.operator.proposal ≡ proposal → IsDecided s step found

abbrev pub DecidesPublish : {A : Type 0} → List ℕ → Progress A → Option (List Group) → ℕ → Option ℕ → Type 0
DecidesPublish words progress proposal r found = DecidesProposed words progress proposal (Publish r) found

-- the words and numbers after a legal step mirror the state after it
abbrev pub Follows : {A : Type 0} → List ℕ → Progress A → List ℕ → Progress A → Step → ℕ → Type 0
Follows words progress words' progress' step x =
    (s : State (List Group)) → IsReached the_shape s → IsMirror the_shape s words progress → IsLegalStep the_shape s step x
    → IsMirror the_shape (after_step the_shape s step x) words' progress'

-- the step is legal in a state that the words and numbers mirror
abbrev pub IsFollowed : {A : Type 0} → List ℕ → Progress A → Step → ℕ → Type 0
IsFollowed words progress step x =
    (s : State (List Group)) × IsReached the_shape s × IsMirror the_shape s words progress × IsLegalStep the_shape s step x

-- where all are at the start, where version 0 names these pages
pub record BeginsAtStart {A : Type 0} (pages : List ℕ) (progress : Progress A) : Type 0 where
  pub stages : progress.stages ≡ replicate the_shape.workers Outside
  pub book : IsBookAtStart pages progress.book

-- the numbers after a step of a worker
abbrev pub moved : {A : Type 0} → ℕ → Step → ℕ → Progress A → Progress A
moved w step x before =
    record before { stages = slice_set before.stages w (next_stage ROWS (slice_index_or before.stages w Outside) step x) }
