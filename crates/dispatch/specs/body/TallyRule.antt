-- The rule on the table of a tally, and what the seat that makes a step learns from it.
use Rattle.std.specs.Prelude.{◌≡◌, ◌+◌, ◌-◌, ◌*◌, ◌<◌, ◌≤◌, ◌++◌, ◌∷◌, List, [], length, slice_index, ℕ}
use mathlib.Core.Option.{some}
use lib.ListN.{get_elem?}
use Rattle.atomic_table.specs.Table.{Me, State, Step}
use Rattle.atomic_table.specs.Seated.{TableId}
use Rattle.dispatch.specs.declared.kind.TheConstants.{KINDS}
use Rattle.dispatch.specs.declared.tally.TheConstants.{COUNTERS, COUNT_LIMIT}
use Rattle.dispatch.specs.declared.tally_rule.CountView.{CountView}
use Rattle.dispatch.specs.Tally.{GaveAtMost, times}

-- the sum of a number of each view
abbrev pub sum_over : (CountView → ℕ) → List CountView → ℕ
sum_over f [] = 0
sum_over f (view ∷ rest) = f view + sum_over f rest

-- each word is how often the seats added to it, whoever has them; the counters are all somebody's, and none counted past its
-- limit; no load returned more than its word has now
pub record IsTallied {S : Type 0} (state : State S CountView) : Type 0 where
  pub words : length state.words ≡ KINDS
  pub sums : (place : ℕ) → place < KINDS → slice_index state.words place ≡ sum_over (λ view. times place view.added) state.views
  pub counters : sum_over (λ view. view.counters) state.views ≡ COUNTERS
  pub limited : (seat : ℕ) (view : CountView) → get_elem? state.views seat ≡ some view → length view.added ≤ view.counters * COUNT_LIMIT
  pub loads : (seat : ℕ) (view : CountView) (place : ℕ) → get_elem? state.views seat ≡ some view → place < KINDS → GaveAtMost view.loads place (slice_index state.words place)

-- the seat of a tally that opens: it reads, and all counters are its own
abbrev pub opening_view : CountView
opening_view = record { added = []; counters = COUNTERS; loads = [] }

-- a counter's seat is split off it
abbrev pub without_counter : CountView → CountView
without_counter view = record view { counters = view.counters - 1 }

abbrev pub new_counter : CountView → CountView
new_counter view = record { added = []; counters = 1; loads = [] }

-- it takes a counter's seat back
abbrev pub with_counter : CountView → CountView → CountView
with_counter view other = record view { added = other.added ++ view.added; counters = other.counters + view.counters }

abbrev pub spent_seat : CountView
spent_seat = record { added = []; counters = 0; loads = [] }

-- 1 was added to the word
abbrev pub counts : {S : Type 0} → Step S → Me S CountView → ℕ → Me S CountView → Type 0
counts at me x after = after ≡ (record me.0 { added = at.word ∷ me.0.added }, me.1)

-- the word was loaded, which returned no less than before; if the seat has all counters, it is how often they counted
pub record Reads {S : Type 0} (at : Step S) (me : Me S CountView) (x : ℕ) (after : Me S CountView) : Type 0 where
  pub one_load : after ≡ (record me.0 { loads = record { place = at.word; word = x } ∷ me.0.loads }, me.1)
  pub no_less : at.word < KINDS → GaveAtMost me.0.loads at.word x
  pub all : at.word < KINDS → me.0.counters ≡ COUNTERS → x ≡ times at.word me.0.added

-- a seat at this table, which has no slot
pub record IsSeatOf {S : Type 0} (slots : List (ℕ × S)) (seat table : TableId) : Type 0 where
  pub no_slots : slots ≡ []
  pub same_table : seat ≡ table
  pub words : table.words ≡ KINDS

-- a counter's seat, and how often it counted; a tally's
pub record IsCounterSeat (view : CountView) (count : ℕ) : Type 0 where
  pub one : view.counters ≡ 1
  pub no_loads : view.loads ≡ []
  pub counted : length view.added ≡ count
  pub limited : count ≤ COUNT_LIMIT

pub record IsTallySeat (view : CountView) : Type 0 where
  pub none : view.counters ≡ 0
  pub nothing_added : view.added ≡ []
