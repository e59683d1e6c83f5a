-- Sums over the seats of a tally, and how often a number stands in a list.
use Rattle.std.proofs.Common.{◌≡◌, ◌≢◌, ◌<◌, ◌≤◌, ◌∙◌, ◌+◌, ◌*◌, ◌∷◌, ◌++◌, ◌==◌, Bool, List, [], ap, arith, cond, eq-eqb, false, length, ne_eqb, refl, set, slice_index, suc, sym, true, zero, ℕ}
use mathlib.Core.Option.{some, some-injective, some-ne-none}
use lib.ListN.{get_elem?}
use Rattle.std.proofs.lemmas.List.{get_or-set_other, get_or-set_same}
use Rattle.dispatch.specs.declared.tally.TheConstants.{COUNT_LIMIT}
use Rattle.std.specs.List.{Contains}
use Rattle.dispatch.specs.declared.tally_rule.CountView.{CountView}
use Rattle.dispatch.specs.declared.tally_rule.Load.{Load}
use Rattle.packet_verdict.specs.declared.kind.Kind.{Kind}
use Rattle.dispatch.specs.Tally.{CounterValue, loaded_below, place_of, sum_of_counts, times}
use Rattle.dispatch.specs.body.TallyRule.{sum_over}

pub sum_set : (f : CountView → ℕ) (views : List CountView) (i : ℕ) (view other : CountView) → get_elem? views i ≡ some view → sum_over f (set views i other) + f view ≡ sum_over f views + f other
sum_set f [] i view other e = absurd (some-ne-none view (sym e))
sum_set f (first ∷ rest) zero view other e = let same = ap f (some-injective first view e) in omega arith
sum_set f (first ∷ rest) (suc i) view other e = let more = sum_set f rest i view other e in omega arith

pub sum_snoc : (f : CountView → ℕ) (views : List CountView) (other : CountView) → sum_over f (views ++ other ∷ []) ≡ sum_over f views + f other
sum_snoc f [] other = omega arith
sum_snoc f (first ∷ rest) other = let more = sum_snoc f rest other in omega arith

-- what is bounded at each seat is bounded in sum
pub sum_limited : (f g : CountView → ℕ) (views : List CountView) → ((i : ℕ) (view : CountView) → get_elem? views i ≡ some view → f view ≤ g view * COUNT_LIMIT) → sum_over f views ≤ sum_over g views * COUNT_LIMIT
sum_limited f g [] each = omega arith
sum_limited f g (first ∷ rest) each =
    let here = each 0 first refl in let more = sum_limited f g rest (λ i view e. each (suc i) view e) in omega arith

pub times_here : (n : ℕ) (rest : List ℕ) → times n (n ∷ rest) ≡ 1 + times n rest
times_here n rest = rw (eq-eqb n n refl) refl

pub times_else : (n other : ℕ) (rest : List ℕ) → other ≢ n → times n (other ∷ rest) ≡ times n rest
times_else n other rest apart = rw (ne_eqb other n apart) omega arith

pub times_limited : (n : ℕ) (log : List ℕ) → times n log ≤ length log
times_limited n [] = omega arith
times_limited n (first ∷ rest) = at_first (first == n) (times_limited n rest) where
  at_first : (same : Bool) → times n rest ≤ length rest → cond same 1 0 + times n rest ≤ suc (length rest)
  at_first true more = omega arith
  at_first false more = omega arith

pub times-append : (n : ℕ) (log other : List ℕ) → times n (log ++ other) ≡ times n log + times n other
times-append n [] other = omega arith
times-append n (first ∷ rest) other = let more = times-append n rest other in omega arith

pub sum_of_counts-snoc : (kind : Kind) (counters : List CounterValue) (last : CounterValue) →
    sum_of_counts kind (counters ++ last ∷ []) ≡ sum_of_counts kind counters + times (place_of kind) last.log
sum_of_counts-snoc kind [] last = omega arith
sum_of_counts-snoc kind (first ∷ rest) last = let more = sum_of_counts-snoc kind rest last in omega arith

-- ---- loads of words in their order

loaded_below-apart : (n i word : ℕ) (words : List ℕ) (log : List Load) → n ≤ i → loaded_below n (set words i word) log ≡ loaded_below n words log
loaded_below-apart zero i word words log low = refl
loaded_below-apart (suc n) i word words log low =
    ap (λ (w : ℕ). record { place = n; word = w } ∷ loaded_below n (set words i word) log) (get_or-set_other words i n word 0 (λ same. absurd (omega arith)))
    ∙ ap (λ (loads : List Load). record { place = n; word = slice_index words n } ∷ loads) (loaded_below-apart n i word words log (omega arith))

pub loaded_below-set : (words : List ℕ) (i word : ℕ) (log : List Load) → i < length words
    → loaded_below (i + 1) (set words i word) log ≡ record { place = i; word = word } ∷ loaded_below i words log
loaded_below-set words i word log inside =
    let next : i + 1 ≡ suc i = omega arith in
    ap (λ (n : ℕ). loaded_below n (set words i word) log) next
    ∙ ap (λ (w : ℕ). record { place = i; word = w } ∷ loaded_below i (set words i word) log) (get_or-set_same words i word 0 inside)
    ∙ ap (λ (loads : List Load). record { place = i; word = word } ∷ loads) (loaded_below-apart i i word words log (omega arith))

pub contains_below : (n : ℕ) (words : List ℕ) (log : List Load) (load : Load) → Contains log load → Contains (loaded_below n words log) load
contains_below zero words log load in_log = in_log
contains_below (suc n) words log load in_log =
    let there = contains_below n words log load in_log in (suc there.0, (let inside = there.1 in omega arith), there.2)
