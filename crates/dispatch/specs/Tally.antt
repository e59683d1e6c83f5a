-- A Tally and its Counters as contracts see them (docs/SWITCH.md, "Tallies").
use Rattle.std.specs.Prelude.{◌≡◌, ◌==◌, ◌+◌, ◌≤◌, ◌∷◌, if◌then◌else◌, List, [], length, slice_index, suc, zero, ℕ}
use Rattle.std.specs.List.{All, Contains}
use Rattle.atomic_table.specs.Seated.{TableId}
use Rattle.packet_verdict.specs.declared.kind.Kind.{Kind}
use Rattle.packet_verdict.specs.declared.kind.Kind.TheVariants.{Delivered, Dropped, Malformed, NoGroup, NoMembers, ReceiveFailed, SendFailed}
use Rattle.dispatch.specs.declared.kind.TheConstants.{KINDS}
use Rattle.dispatch.specs.declared.kind.Totals.{Totals}
use Rattle.dispatch.specs.declared.tally.TheConstants.{COUNTERS}
use Rattle.dispatch.specs.declared.tally_rule.Load.{Load}

-- the word of a tally's table that counts a kind
abbrev pub place_of : Kind → ℕ
place_of Malformed = 0
place_of NoGroup = 1
place_of NoMembers = 2
place_of Dropped = 3
place_of Delivered = 4
place_of SendFailed = 5
place_of ReceiveFailed = 6

abbrev pub total_of : Totals → Kind → ℕ
total_of totals kind = slice_index totals.counts (place_of kind)

-- how often a number occurs in a list
abbrev pub times : ℕ → List ℕ → ℕ
times n [] = 0
times n (first ∷ rest) = (if first == n then 1 else 0) + times n rest

-- the table that it counts in, and its log: the words to each of which it added 1, the newest first
pub record CounterValue : Type 0 where
  pub table : TableId
  pub log : List ℕ

-- the table that it reads, and its log: its loads, the newest first
pub record TallyValue : Type 0 where
  pub table : TableId
  pub log : List Load

-- one step more of each
abbrev pub counted : ℕ → CounterValue → CounterValue
counted place counter = record counter { log = place ∷ counter.log }

abbrev pub loaded : ℕ → ℕ → TallyValue → TallyValue
loaded place word tally = record tally { log = record { place = place; word = word } ∷ tally.log }

-- one load of each word below a place, which returned the list's word at that place
abbrev pub loaded_below : ℕ → List ℕ → List Load → List Load
loaded_below zero words log = log
loaded_below (suc place) words log = record { place = place; word = slice_index words place } ∷ loaded_below place words log

-- one load of each total, which returned these totals, in the order of their line
abbrev pub all_loaded : Totals → TallyValue → TallyValue
all_loaded totals tally = record tally { log = loaded_below KINDS totals.counts tally.log }

-- no load of that word returned more than this
abbrev pub GaveAtMost : List Load → ℕ → ℕ → Type 0
GaveAtMost log place word = (load : Load) → Contains log load → load.place ≡ place → load.word ≤ word

-- the counters that a tally opens with, of which none made a step
pub record AreOpenedCounters (table : TableId) (counters : List CounterValue) : Type 0 where
  pub count : length counters ≡ COUNTERS
  pub each : All (λ counter. counter ≡ record { table = table; log = [] }) counters

-- all counters of a tally
pub record AreCountersOf (table : TableId) (counters : List CounterValue) : Type 0 where
  pub count : length counters ≡ COUNTERS
  pub same_table : All (λ (counter : CounterValue). counter.table ≡ table) counters

-- how often these counters counted a kind
abbrev pub sum_of_counts : Kind → List CounterValue → ℕ
sum_of_counts kind [] = 0
sum_of_counts kind (counter ∷ rest) = times (place_of kind) counter.log + sum_of_counts kind rest
