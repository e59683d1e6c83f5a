-- The rule on the table of a tally holds at the start, and each step keeps it.
use Rattle.std.proofs.Common.{◌≡◌, ◌≢◌, ◌<◌, ◌≤◌, ◌+◌, ◌-◌, ◌*◌, ◌%◌, ◌^◌, ◌∷◌, ◌++◌, ◌∙◌, ◌⊎◌, List, [], ap, arith, inl, inr, length, refl, set, slice_index, subst, sym, ℕ}
use mathlib.Core.Logic.{dite}
use mathlib.Core.Option.{Option, none, some}
use native.Mathlib.Decide.{ℕ_discrete}
use lib.ListN.{get_elem?}
use Rattle.std.proofs.lemmas.List.{get_or-set_other, get_or-set_same, length-append, length-set, set-get_or}
use Rattle.std.specs.List.{Contains}
use Rattle.versions.proofs.ListLemmas.{contains_first}
use Rattle.atomic_table.specs.Table.{Allows, Joins, Me, Splits, State, keeps, step}
use Rattle.atomic_table.proofs.Lists.{at_set, at_snoc}
use Rattle.dispatch.specs.declared.kind.TheConstants.{KINDS}
use Rattle.packet_verdict.specs.declared.kind.Kind.{Kind}
use Rattle.packet_verdict.specs.declared.kind.Kind.TheVariants.{Delivered, Dropped, Malformed, NoGroup, NoMembers, ReceiveFailed, SendFailed}
use Rattle.dispatch.specs.declared.tally.TheConstants.{COUNTERS, COUNT_LIMIT}
use Rattle.dispatch.specs.declared.tally_rule.CountView.{CountView}
use Rattle.dispatch.specs.declared.tally_rule.Load.{Load}
use Rattle.atomic_table.specs.Seated.{TableId}
use Rattle.dispatch.specs.Tally.{AreCountersOf, AreOpenedCounters, CounterValue, GaveAtMost, place_of, times}
use Rattle.dispatch.specs.body.TallyRule.{IsTallied, Reads, counts, new_counter, spent_seat, sum_over, with_counter, without_counter}
use Rattle.dispatch.proofs.SumLemmas.{sum_limited, sum_set, sum_snoc, times-append, times_else, times_here, times_limited}

abbrev pub TallyState : Type 0
TallyState = State ℕ CountView

-- no word is near the end of its range
word_limited : (s : TallyState) → IsTallied s → (place : ℕ) → place < KINDS → slice_index s.words place ≤ COUNTERS * COUNT_LIMIT
word_limited s h place low =
    let bound = sum_limited (λ view. times place view.added) (λ view. view.counters) s.views
    (λ i view e. let few = h.limited i view e in let most = times_limited place view.added in omega arith) in
    let sum = h.sums place low in
    let all = subst (λ n. sum_over (λ view. times place view.added) s.views ≤ n * COUNT_LIMIT) h.counters bound in
    omega arith

-- a seat with all counters has added all that was added
pub all_counted : (s : TallyState) → IsTallied s → (id : ℕ) (view : CountView) → get_elem? s.views id ≡ some view → view.counters ≡ COUNTERS
    → (place : ℕ) → place < KINDS → slice_index s.words place ≡ times place view.added
all_counted s h id view e all place low =
    let others = sum_set (λ v. v.counters) s.views id view spent_seat e in
    let sums = sum_set (λ v. times place v.added) s.views id view spent_seat e in
    let have = h.counters in
    let none_left : sum_over (λ v. v.counters) (set s.views id spent_seat) ≡ 0 = omega arith in
    let bound = sum_limited (λ v. times place v.added) (λ v. v.counters) (set s.views id spent_seat) (λ j v there. each j v (at_set s.views id j spent_seat v there)) in
    let zero_sum = subst (λ n. sum_over (λ v. times place v.added) (set s.views id spent_seat) ≤ n * COUNT_LIMIT) none_left bound in
    let word = h.sums place low in
    omega arith
  where
    each : (j : ℕ) (v : CountView) → ((j ≡ id) × (spent_seat ≡ v)) ⊎ ((j ≢ id) × (get_elem? s.views j ≡ some v)) → times place v.added ≤ v.counters * COUNT_LIMIT
    each j v (inl here) = subst (λ (w : CountView). times place w.added ≤ w.counters * COUNT_LIMIT) here.1 (omega arith)
    each j v (inr there) = let few = h.limited j v there.1 in let most = times_limited place v.added in omega arith

-- ---- what the rule says of each seat

abbrev Fits : List ℕ → CountView → Type 0
Fits words view = (length view.added ≤ view.counters * COUNT_LIMIT) × ((place : ℕ) → place < KINDS → GaveAtMost view.loads place (slice_index words place))

abbrev EachFits : List ℕ → List CountView → Type 0
EachFits words views = (seat : ℕ) (view : CountView) → get_elem? views seat ≡ some view → Fits words view

each_fits : (s : TallyState) → IsTallied s → EachFits s.words s.views
each_fits s h seat view e = (h.limited seat view e, λ place low. h.loads seat view place e low)

-- words only grow
abbrev Grows : List ℕ → List ℕ → Type 0
Grows words later = (place : ℕ) → place < KINDS → slice_index words place ≤ slice_index later place

fits_later : (words later : List ℕ) (views : List CountView) → Grows words later → EachFits words views → EachFits later views
fits_later words later views grows each seat view e =
    let here = each seat view e in (here.0, λ place low load in_log at. let most = here.1 place low load in_log at in let more = grows place low in omega arith)

fits_set : (words : List ℕ) (views : List CountView) (id : ℕ) (other : CountView) → EachFits words views → Fits words other → EachFits words (set views id other)
fits_set words views id other each fits seat view e = by_place (at_set views id seat other view e) where
  by_place : ((seat ≡ id) × (other ≡ view)) ⊎ ((seat ≢ id) × (get_elem? views seat ≡ some view)) → Fits words view
  by_place (inl here) = subst (Fits words) here.1 fits
  by_place (inr there) = each seat view there.1

fits_snoc : (words : List ℕ) (views : List CountView) (other : CountView) → EachFits words views → Fits words other → EachFits words (views ++ other ∷ [])
fits_snoc words views other each fits seat view e = by_place (at_snoc views other view seat e) where
  by_place : (get_elem? views seat ≡ some view) ⊎ (other ≡ view) → Fits words view
  by_place (inl there) = each seat view there
  by_place (inr here) = subst (Fits words) here fits

module _ {S : Type 0} where
  tallied : (state : State S CountView) → length state.words ≡ KINDS
      → ((place : ℕ) → place < KINDS → slice_index state.words place ≡ sum_over (λ view. times place view.added) state.views)
      → sum_over (λ view. view.counters) state.views ≡ COUNTERS → EachFits state.words state.views → IsTallied state
  tallied state words sums counters each = record {
    words = words;
    sums = sums;
    counters = counters;
    limited = λ seat view e. (each seat view e).0;
    loads = λ seat view place e low. (each seat view e).1 place low;
  }

-- ---- a seat's step on a word

module _ (s : TallyState) (h : IsTallied s) (id : ℕ) (view : CountView) (there : get_elem? s.views id ≡ some view) (place : ℕ) (low : place < KINDS) where
  abbrev word : ℕ
  word = slice_index s.words place

  abbrev one_more : CountView
  one_more = record view { added = place ∷ view.added }

  inside : place < length s.words
  inside = let long = h.words in omega arith

  counted_word : (q : ℕ) → q < KINDS → slice_index (set s.words place ((word + 1) % 2 ^ 64)) q + times q view.added ≡ slice_index s.words q + times q (place ∷ view.added)
  counted_word q q_low = dite (ℕ_discrete q place)
      (λ same. subst (λ (p : ℕ). slice_index (set s.words place ((word + 1) % 2 ^ 64)) p + times p view.added ≡ slice_index s.words p + times p (place ∷ view.added)) (sym same)
      (let here = get_or-set_same s.words place ((word + 1) % 2 ^ 64) 0 inside in let few = word_limited s h place low in let more = times_here place view.added in omega arith))
      (λ apart. let same_word = get_or-set_other s.words place q ((word + 1) % 2 ^ 64) 0 apart in let same = times_else q place view.added (λ e. apart (sym e)) in omega arith)

  word_grows : Grows s.words (set s.words place ((word + 1) % 2 ^ 64))
  word_grows q q_low = let is = counted_word q q_low in let more = times_more q in omega arith
    where
      times_more : (q : ℕ) → times q view.added ≤ times q (place ∷ view.added)
      times_more q = omega arith

  pub tallied_counted : (homes : List (Option ℕ)) → length view.added < view.counters * COUNT_LIMIT
      → IsTallied {S = ℕ} record { words = set s.words place ((word + 1) % 2 ^ 64); homes = homes; views = set s.views id one_more }
  tallied_counted homes room = tallied _ (length-set s.words place ((word + 1) % 2 ^ 64) ∙ h.words)
      (λ q q_low. let is = counted_word q q_low in let was = h.sums q q_low in let sums = sum_set (λ v. times q v.added) s.views id view one_more there in omega arith)
      (let sums = sum_set (λ v. v.counters) s.views id view one_more there in let was = h.counters in omega arith)
      (fits_set _ s.views id one_more (fits_later s.words _ s.views word_grows (each_fits s h))
      (omega arith, λ q q_low. (fits_later s.words _ s.views word_grows (each_fits s h) id view there).1 q q_low))

  abbrev with_load : CountView
  with_load = record view { loads = record { place = place; word = word } ∷ view.loads }

  tallied_loaded : (homes : List (Option ℕ)) → IsTallied {S = ℕ} record { words = s.words; homes = homes; views = set s.views id with_load }
  tallied_loaded homes = tallied _ h.words
      (λ q q_low. let was = h.sums q q_low in let sums = sum_set (λ v. times q v.added) s.views id view with_load there in omega arith)
      (let sums = sum_set (λ v. v.counters) s.views id view with_load there in let was = h.counters in omega arith)
      (fits_set _ s.views id with_load (each_fits s h) ((each_fits s h id view there).0, λ q q_low load in_log at. by_first q q_low load at (contains_first _ load view.loads in_log)))
    where
      by_first : (q : ℕ) → q < KINDS → (load : Load) → load.place ≡ q → (record { place = place; word = word } ≡ load) ⊎ Contains view.loads load → load.word ≤ slice_index s.words q
      by_first q q_low load at (inl new) =
          let is = ap (λ (l : Load). l.word) new in
          let q_is : place ≡ q = ap (λ (l : Load). l.place) new ∙ at in
          subst (λ (p : ℕ). load.word ≤ slice_index s.words p) q_is (omega arith)
      by_first q q_low load at (inr old) = h.loads id view q there q_low load old at

  -- a load changes no word
  pub tallied_read : (homes : List (Option ℕ)) → IsTallied {S = ℕ} record { words = set s.words place word; homes = homes; views = set s.views id with_load }
  tallied_read homes = subst (λ (words : List ℕ). IsTallied {S = ℕ} record { words = words; homes = homes; views = set s.views id with_load })
      (sym (set-get_or s.words place 0)) (tallied_loaded homes)

-- 1 is added to a word, by a counter that has not counted to its limit
pub allows_count : (slots id place : ℕ) (me : Me ℕ CountView) → place < KINDS → length me.0.added < me.0.counters * COUNT_LIMIT
    → Allows IsTallied slots id me place (λ n. (n + 1) % 2 ^ 64) (counts (step slots place 1 0 none) me)
allows_count slots id place me low room = λ s h homes there small.
    (record me.0 { added = place ∷ me.0.added }, keeps, tt, tallied_counted s h id me.0 there place low s.homes room, refl)

-- a word is read
pub allows_read : (slots id place : ℕ) (me : Me ℕ CountView) → place < KINDS → Allows IsTallied slots id me place (λ n. n) (Reads (step slots place 0 0 none) me)
allows_read slots id place me low = λ s h homes there small. (
  record me.0 { loads = record { place = place; word = slice_index s.words place } ∷ me.0.loads },
  keeps,
  tt,
  tallied_read s h id me.0 there place low s.homes,
  record { one_load = refl; no_less = λ inside load in_log at. h.loads id me.0 place there low load in_log at; all = λ inside all. all_counted s h id me.0 there all place low },
)

-- ---- seats

-- a counter gets a seat of its own
pub splits_counter : (id : ℕ) (view : CountView) → 0 < view.counters → view.added ≡ [] → Splits (IsTallied {S = ℕ}) id view (without_counter view) (new_counter view)
splits_counter id view has empty = λ s h there.
    tallied _ h.words
    (λ q low. let was = h.sums q low in let sums = sum_set (λ v. times q v.added) s.views id view (without_counter view) there in
    let more = sum_snoc (λ v. times q v.added) (set s.views id (without_counter view)) (new_counter view) in omega arith)
    (let was = h.counters in let sums = sum_set (λ v. v.counters) s.views id view (without_counter view) there in
    let more = sum_snoc (λ v. v.counters) (set s.views id (without_counter view)) (new_counter view) in omega arith)
    (fits_snoc _ (set s.views id (without_counter view)) (new_counter view)
    (fits_set _ s.views id (without_counter view) (each_fits s h) (subst (λ (added : List ℕ). length added ≤ (view.counters - 1) * COUNT_LIMIT) (sym empty) (omega arith), (each_fits s h id view there).1))
    (omega arith, λ place low load never. absurd (let less = never.1 in omega arith)))

-- a seat takes a counter's back
pub joins_counter : (id other : ℕ) (view taken : CountView) → Joins (IsTallied {S = ℕ}) id view other taken (with_counter view taken) spent_seat
joins_counter id other view taken = λ s h there apart taken_there.
    let both = with_counter view taken in
    let at_other = taken_at s other (at_set s.views id other both taken taken_there) apart in
    tallied _ h.words
    (λ q low. let was = h.sums q low in let first = sum_set (λ v. times q v.added) s.views id view both there in
    let second = sum_set (λ v. times q v.added) (set s.views id both) other taken spent_seat taken_there in
    let joined = times-append q taken.added view.added in omega arith)
    (let was = h.counters in let first = sum_set (λ v. v.counters) s.views id view both there in
    let second = sum_set (λ v. v.counters) (set s.views id both) other taken spent_seat taken_there in omega arith)
    (fits_set _ (set s.views id both) other spent_seat
    (fits_set _ s.views id both (each_fits s h) (
      let mine = h.limited id view there in let its = h.limited other taken at_other in let long = length-append taken.added view.added in omega arith,
      (each_fits s h id view there).1,
    ))
    (omega arith, λ place low load never. absurd (let less = never.1 in omega arith)))
  where
    taken_at : (s : TallyState) (other : ℕ) → ((other ≡ id) × (with_counter view taken ≡ taken)) ⊎ ((other ≢ id) × (get_elem? s.views other ≡ some taken)) → (other ≡ id → ⊥)
        → get_elem? s.views other ≡ some taken
    taken_at s other (inl here) apart = absurd (apart here.0)
    taken_at s other (inr there) apart = there.1

-- ---- kinds

pub place_low : (kind : Kind) → place_of kind < KINDS
place_low Malformed = omega arith
place_low NoGroup = omega arith
place_low NoMembers = omega arith
place_low Dropped = omega arith
place_low Delivered = omega arith
place_low SendFailed = omega arith
place_low ReceiveFailed = omega arith

-- the counters that a tally opens with are all counters of it
pub opened_are_all : (table : TableId) (counters : List CounterValue) → AreOpenedCounters table counters → AreCountersOf table counters
opened_are_all table counters opened = record {
  count = opened.count;
  same_table = λ i d inside. ap (λ (counter : CounterValue). counter.table) (opened.each i d inside);
}
