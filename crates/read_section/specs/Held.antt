-- The rule's consequences for a version that a worker holds, in each state that the table can be in: its words are in their
-- places.
use Rattle.std.specs.Prelude.{◌≡◌, ◌↔◌, List, Some, slice_index, ℕ}
use mathlib.Core.Option.{some}
use lib.ListN.{get_elem?}
use Rattle.config_image.specs.Image.{Group}
use Rattle.versions.specs.declared.step.Step.TheVariants.{Fetch, Fill}
use Rattle.versions.specs.declared.view.Stage.TheVariants.{Inside}
use Rattle.versions.specs.declared.view.WorkerView.{WorkerView}
use Rattle.versions.specs.Layout.{Shape}
use Rattle.versions.specs.View.{IsTold}
use Rattle.versions.specs.Legal.{IsLegalStep}
use Rattle.versions.specs.Safety.{IsFormWord, IsHeldPlace}
use Rattle.versions.specs.Table.{the_shape}
use Rattle.read_section.specs.declared.versions_rule.SeatView.{SeatView}
use Rattle.read_section.specs.VersionsRule.{IsAllowedState, TableState, state_left}

module _ {C : Type 0} (shape : Shape C) where
  -- the worker has seen version n, and x is the word of that configuration's form at the place, if the form is in row r and the
  -- worker's pages
  abbrev pub IsSeenWord : WorkerView C → ℕ → ℕ → ℕ → ℕ → Type 0
  IsSeenWord view n r place x = (config : C) × (get_elem? view.seen n ≡ some config) × IsFormWord shape r config view.pages place x

-- a worker that has a seat at the table is inside: it holds version n, which is in row r
pub record IsHolder (state : TableState) (view : WorkerView (List Group)) (n r : ℕ) : Type 0 where
  pub seat : ℕ
  pub known : SeatView (List Group)
  pub read_word : ℕ
  pub there : get_elem? state.views seat ≡ some known
  pub worker : known.worker ≡ Some view
  pub inside : view.stage ≡ Inside read_word n r

-- in each state of the table that the rule allows, the words of the version that a worker holds there are in its row and its pages
abbrev pub HeldWordsStand : Type 0
HeldWordsStand =
    (config : List Group) (state : TableState) (view : WorkerView (List Group)) (n r place : ℕ) → IsAllowedState config state → IsHolder state view n r
    → IsHeldPlace the_shape view place → IsSeenWord the_shape view n r place (slice_index state.words place)

-- in two such states these words are the same, if the worker holds the version in both, and knows in the later one what it knew
-- in the earlier: the versions that it had seen, and the version's pages
abbrev pub HeldWordsStay : Type 0
HeldWordsStay =
    (config : List Group) (earlier later : TableState) (view view' : WorkerView (List Group)) (n r place : ℕ) → IsAllowedState config earlier → IsAllowedState config later
    → IsHolder earlier view n r → IsHolder later view' n r → IsTold view.seen view' → view'.pages ≡ view.pages → IsHeldPlace the_shape view place
    → slice_index later.words place ≡ slice_index earlier.words place

-- the worker's next step may be a fetch of each word of the version, and it then loads the version's word, and no other
abbrev pub FetchesHeldWord : Type 0
FetchesHeldWord =
    (config : List Group) (state : TableState) (view : WorkerView (List Group)) (n r place x : ℕ) (allowed : IsAllowedState config state) → IsHolder state view n r
    → IsHeldPlace the_shape view place → IsLegalStep the_shape (state_left the_shape allowed) (Fetch view.number place) x ↔ IsSeenWord the_shape view n r place x

-- no fill of a word of the version may come next
abbrev pub HeldWordsUnfilled : Type 0
HeldWordsUnfilled =
    (config : List Group) (state : TableState) (view : WorkerView (List Group)) (n r place word x : ℕ) (allowed : IsAllowedState config state) → IsHolder state view n r
    → IsHeldPlace the_shape view place → IsLegalStep the_shape (state_left the_shape allowed) (Fill place word) x → ⊥
