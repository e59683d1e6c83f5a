-- The steps that are legal (docs/TABLE.md, "The eight steps").
use Rattle.std.specs.Prelude.{◌≡◌, ◌+◌, ◌<◌, ◌≤◌, ◌^◌, ◌⊎◌, ◌∷◌, List, Some, [], slice_index, ℕ}
use mathlib.Core.Option.{some}
use lib.ListN.{get_elem?}
use Rattle.versions.specs.declared.step.Step.{Step}
use Rattle.versions.specs.declared.step.Step.TheVariants.{Announce, Fetch, Fill, Leave, Peek, Pin, Publish, Scan}
use Rattle.versions.specs.declared.step.Entry.{Entry}
use Rattle.versions.specs.declared.step.Event.{Event}
use Rattle.versions.specs.declared.step.Event.TheVariants.{Proposed, Stepped}
use Rattle.versions.specs.declared.view.Stage.{Stage}
use Rattle.versions.specs.declared.view.Stage.TheVariants.{Announced, Inside, Peeked}
use Rattle.versions.specs.declared.view.WorkerView.{WorkerView}
use Rattle.versions.specs.declared.view.OperatorView.{OperatorView}
use Rattle.versions.specs.Layout.{HoldsForm, IsInPage, IsInRow, Shape, current_word, pages_named, rows_begin}
use Rattle.versions.specs.Step.{IsStepOf}
use Rattle.versions.specs.View.{stage_after}
use Rattle.versions.specs.Free.{IsFreePage, IsFreeRow, number_after}
use Rattle.versions.specs.State.{HoldsVersion, IsOpening, IsWordOf, State, start_of, state_after}

-- peeks come outside, and inside after the pin; nothing comes between an announce and its pin
abbrev pub MayPeek : Stage → Type 0
MayPeek (Announced read_word) = ⊥
MayPeek _ = Unit {0}

-- the order of a worker's steps: peek, announce of the last peek's version plus 1, pin, fetches, leave. Each announce has a
-- peek of its own, since a leave forgets the last one
abbrev pub IsInOrder : Stage → Step → ℕ → Type 0
IsInOrder stage (Peek w) x = MayPeek stage
IsInOrder stage (Announce w) x = (n : ℕ) × (stage ≡ Peeked n) × (x ≡ n + 1)
IsInOrder stage (Pin w) x = (read_word : ℕ) × (stage ≡ Announced read_word)
IsInOrder stage (Fetch w place) x = (read_word : ℕ) × (n : ℕ) × (r : ℕ) × (stage ≡ Inside read_word n r)
IsInOrder stage (Leave w) x = (read_word : ℕ) × (n : ℕ) × (r : ℕ) × (stage ≡ Inside read_word n r) × (x ≡ 0)
IsInOrder stage _ x = ⊥

module _ {C : Type 0} where
  -- the word at a place is x: a load of it loads x
  abbrev pub IsWordAt : State C → ℕ → ℕ → Type 0
  IsWordAt state place x = x ≡ slice_index state.words place

  -- there is a worker w, and the step is next in its order
  abbrev pub IsNextOf : State C → ℕ → Step → ℕ → Type 0
  IsNextOf state w step x = (view : WorkerView C) × (get_elem? state.workers w ≡ some view) × IsInOrder view.stage step x

module _ {C : Type 0} (shape : Shape C) where
  -- the place is in a page of the pool
  abbrev pub IsInPool : ℕ → Type 0
  IsInPool place = (q : ℕ) × (q < shape.pages) × IsInPage shape q place

  -- a fetch goes to the row of the version held, or to the pool: a log alone shows no more
  abbrev pub MayFetch : Stage → ℕ → Type 0
  MayFetch (Inside read_word n r) place = IsInRow shape r place ⊎ IsInPool place
  MayFetch _ place = ⊥

  -- the step is no fetch, or one that may go there
  abbrev pub FetchesInReach : Stage → Step → Type 0
  FetchesInReach stage (Fetch w place) = MayFetch stage place
  FetchesInReach stage _ = Unit {0}

  -- a log of worker w alone, in the order of a worker's steps, each fetch in the row held then or in the pool
  abbrev pub IsLogOf : ℕ → List Entry → Type 0
  IsLogOf w [] = Unit {0}
  IsLogOf w (newest ∷ older) =
      IsLogOf w older × IsStepOf w newest.step × IsInOrder (stage_after shape.rows older) newest.step newest.word × FetchesInReach (stage_after shape.rows older) newest.step

  -- the place is a word of the version that worker w holds: the one rule on the place of a fetch, whatever its order
  abbrev pub HoldsPlace : State C → ℕ → ℕ → Type 0
  HoldsPlace state w place = (n : ℕ) × (r : ℕ) × HoldsVersion state w n r × IsWordOf shape state n place

  -- the place is in a free row or in a free page
  abbrev pub MayFill : OperatorView C → ℕ → Type 0
  MayFill view place = ((r : ℕ) × IsFreeRow shape view r × IsInRow shape r place) ⊎ ((q : ℕ) × IsFreePage shape view q × IsInPage shape q place)

  -- the operator publishes its last proposal, from a free row that contains that configuration with the pages that it names,
  -- while numbers last
  pub record CanPublish (state : State C) (r : ℕ) : Type 0 where
    pub free : IsFreeRow shape state.operator r
    pub config : C
    pub proposed : state.operator.proposal ≡ Some config
    pub holds : HoldsForm shape (rows_begin shape) state.words r config (pages_named shape state.operator.stored r)
    pub number : number_after state.operator.log < shape.last_number

  -- the step is legal, and loads or stores x
  abbrev pub IsLegalStep : State C → Step → ℕ → Type 0
  IsLegalStep state (Peek w) x = IsNextOf state w (Peek w) x × IsWordAt state 0 x
  IsLegalStep state (Announce w) x = IsNextOf state w (Announce w) x
  IsLegalStep state (Pin w) x = IsNextOf state w (Pin w) x × IsWordAt state 0 x
  IsLegalStep state (Fetch w place) x = IsNextOf state w (Fetch w place) x × HoldsPlace state w place × IsWordAt state place x
  IsLegalStep state (Leave w) x = IsNextOf state w (Leave w) x
  IsLegalStep state (Fill place word) x = MayFill state.operator place × (word < 2 ^ 64) × (x ≡ word)
  IsLegalStep state (Publish r) x = CanPublish state r × (x ≡ current_word shape (number_after state.operator.log + 1) r)
  IsLegalStep state (Scan place) x = (w : ℕ) × (w < shape.workers) × (place ≡ 1 + w) × IsWordAt state place x

  -- a step is legal with the word that it loads or stores; a proposal is legal if its charge is at most the greatest
  abbrev pub IsLegalEvent : State C → Event C → Type 0
  IsLegalEvent state (Stepped step x) = IsLegalStep state step x
  IsLegalEvent state (Proposed config) = shape.charge config ≤ shape.charge_limit

  -- each event is legal after those before it
  abbrev pub IsLegal : State C → List (Event C) → Type 0
  IsLegal start [] = Unit {0}
  IsLegal start (newest ∷ older) = IsLegal start older × IsLegalEvent (state_after shape start older) newest

  -- a legal trace leads to the state
  pub record IsReached (s : State C) : Type 0 where
    pub config : C
    pub stored : List ℕ
    pub trace : List (Event C)
    pub opening : IsOpening shape config stored
    pub legal : IsLegal (start_of shape config stored) trace
    pub reached : state_after shape (start_of shape config stored) trace ≡ s
