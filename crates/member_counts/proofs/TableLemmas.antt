-- What the additions of a log's entries leave at each key.
use Rattle.std.proofs.Common.{◌≡◌, ◌+◌, ◌<◌, ◌≤◌, ◌∙◌, ◌++◌, ◌∷◌, Bool, IsSome, List, None, Option, Some, [], ap, append-nil, arith, cond, false, get_or, inl, inr, length, refl, subst, sym, take, take_all, true, ℕ}
use Rattle.std.proofs.lemmas.List.{take_more}
use Rattle.std.proofs.lemmas.List.Elements.{All-pop, All-push, All-weaker, filter-append}
use Rattle.std.proofs.lemmas.List.Sums.{fold_push, sum_by_push}
use Rattle.std.specs.List.{All, filter, sum_by}
use Rattle.std.specs.Map.{lookup}
use Rattle.member_counts.specs.declared.counts.Counts.{Counts}
use Rattle.member_counts.specs.declared.key.CountKey.{CountKey}
use Rattle.member_counts.specs.declared.log.Run.{Run}
use Rattle.member_counts.specs.Counts.{plus}
use Rattle.member_counts.specs.Key.{same_key}
use Rattle.member_counts.specs.Log.{earlier_runs, is_for, last_run}
use Rattle.member_counts.specs.Table.{Conserves, CountsLog, GrowsBy, IsSplit, Table, joined, kept_after, kept_at, nothing, one_added, one_lost, total}
use Rattle.member_counts.specs.body.Step.{AddsAt, GrowsEach, IsKept, IsLost}
use Rattle.member_counts.proofs.KeyLemmas.{same_key-symm, same_from_same_key}
use Rattle.member_counts.proofs.LogLemmas.{all-runs, no-runs}

pub none_yet : (table : Table) → CountsLog table [] table
none_yet table = record {
  added = [];
  lost = [];
  split = nothing;
  at_each_key = λ key. refl;
  gone = refl;
  kept_loses_none = λ k d below. absurd (omega arith);
}

filter_other : (key : CountKey) (entries : List Run) (entry : Run) → is_for key entry ≡ false → filter (is_for key) (entries ++ entry ∷ []) ≡ filter (is_for key) entries
filter_other key entries entry other = filter-append (is_for key) entries (entry ∷ []) ∙ rw other (append-nil (filter (is_for key) entries))

filter_own : (key : CountKey) (entries : List Run) (entry : Run) → is_for key entry ≡ true → filter (is_for key) (entries ++ entry ∷ []) ≡ filter (is_for key) entries ++ entry ∷ []
filter_own key entries entry own = filter-append (is_for key) entries (entry ∷ []) ∙ rw own refl

kept_after_push : (kept : Option Counts) (entries : List Run) (entry : Run) → kept_after kept (entries ++ entry ∷ []) ≡ Some (joined (kept_after kept entries) entry.counts)
kept_after_push kept entries entry = fold_push (λ (sum : Option Counts) (e : Run). Some (joined sum e.counts)) kept entries entry

kept_after-some : (counts : Counts) (entries : List Run) → (after : Counts) × (kept_after (Some counts) entries ≡ Some after)
kept_after-some counts [] = (counts, refl)
kept_after-some counts (entry ∷ entries) = kept_after-some (plus counts entry.counts) entries

-- what is not kept after entries was not kept before them
kept_after-none : (kept : Option Counts) (entries : List Run) → kept_after kept entries ≡ None → kept ≡ None
kept_after-none None entries none = refl
kept_after-none (Some counts) entries none = let some = kept_after-some counts entries in cc (some.1, none)

module _ (old mid : Table) (log : List Run) (so_far : CountsLog old log mid) (entry : Run) where
  keeps : (new : Table) (key : CountKey) → entry.key ≡ key → IsKept key entry.counts mid new → CountsLog old (log ++ entry ∷ []) new
  keeps new key is_key_of step = record {
    added = so_far.added ++ entry ∷ [];
    lost = so_far.lost;
    split = one_added log so_far.added so_far.lost entry so_far.split;
    at_each_key = λ other. at other (same_key other key) refl;
    gone = step.gone ∙ so_far.gone;
    kept_loses_none = so_far.kept_loses_none;
  }
    where
      at : (other : CountKey) (same : Bool) → same_key other key ≡ same → kept_at other new ≡ kept_after (kept_at other old) (filter (is_for other) (so_far.added ++ entry ∷ []))
      at other true is =
          let own : is_for other entry ≡ true = ap (same_key other) is_key_of ∙ is in
          let one : other ≡ key = same_from_same_key other key is in
          let here : kept_at other new ≡ Some (joined (kept_at key mid) entry.counts) = step.at_each_key other ∙ ap (λ b. cond b (Some (joined (kept_at key mid) entry.counts)) (kept_at other mid)) (same_key-symm key other ∙ is) in
          let before : kept_at key mid ≡ kept_after (kept_at other old) (filter (is_for other) so_far.added) = ap (λ k. kept_at k mid) (sym one) ∙ so_far.at_each_key other in
          here ∙ ap (λ kept. Some (joined kept entry.counts)) before
          ∙ sym (kept_after_push (kept_at other old) (filter (is_for other) so_far.added) entry)
          ∙ sym (ap (λ entries. kept_after (kept_at other old) entries) (filter_own other so_far.added entry own))
      at other false is =
          let not_own : is_for other entry ≡ false = ap (same_key other) is_key_of ∙ is in
          step.at_each_key other ∙ ap (λ b. cond b (Some (joined (kept_at key mid) entry.counts)) (kept_at other mid)) (same_key-symm key other ∙ is)
          ∙ so_far.at_each_key other
          ∙ sym (ap (λ entries. kept_after (kept_at other old) entries) (filter_other other so_far.added entry not_own))

  loses : (new : Table) (key : CountKey) → entry.key ≡ key → IsLost key entry.counts mid new → CountsLog old (log ++ entry ∷ []) new
  loses new key is_key_of step = record {
    added = so_far.added;
    lost = so_far.lost ++ entry ∷ [];
    split = one_lost log so_far.added so_far.lost entry so_far.split;
    at_each_key = λ other. ap (λ entries. lookup (same_key other) entries) step.entries ∙ so_far.at_each_key other;
    gone = step.gone ∙ ap (λ gone. plus gone entry.counts) so_far.gone ∙ sym (fold_push (λ (sum : Counts) (e : Run). plus sum e.counts) old.gone so_far.lost entry);
    kept_loses_none = All-push (λ lost. (other : CountKey) → is_for other lost ≡ true → kept_at other old ≡ None) so_far.lost entry so_far.kept_loses_none (λ other own.
        let one : other ≡ key = same_from_same_key other key (sym (ap (same_key other) is_key_of) ∙ own) in
        let none : kept_at other mid ≡ None = ap (λ k. kept_at k mid) one ∙ step.absent in
        kept_after-none (kept_at other old) (filter (is_for other) so_far.added) (sym (so_far.at_each_key other) ∙ none));
  }

  pub steps : (new : Table) (key : CountKey) → entry.key ≡ key → AddsAt key entry.counts mid new → CountsLog old (log ++ entry ∷ []) new
  steps new key is_key_of (inl step) = keeps new key is_key_of step
  steps new key is_key_of (inr step) = loses new key is_key_of step

-- a key that was kept gets each of its entries
same_for : (key : CountKey) (all added lost : List Run) → IsSplit all added lost → All (λ entry. is_for key entry ≡ false) lost
    → filter (is_for key) all ≡ filter (is_for key) added
same_for key _ _ _ nothing others = refl
same_for key _ _ _ (one_added all added lost x split) others =
    filter-append (is_for key) all (x ∷ []) ∙ ap (λ front. front ++ filter (is_for key) (x ∷ [])) (same_for key all added lost split others)
    ∙ sym (filter-append (is_for key) added (x ∷ []))
same_for key _ _ _ (one_lost all added lost x split) others =
    let apart = All-pop (λ entry. is_for key entry ≡ false) (lost ++ x ∷ []) lost (Some x) refl others in
    filter_other key all x apart.1 ∙ same_for key all added lost split apart.0

pub kept_exact : (old : Table) (log : List Run) (new : Table) → CountsLog old log new → (key : CountKey) → IsSome (kept_at key old)
    → kept_at key new ≡ kept_after (kept_at key old) (filter (is_for key) log)
kept_exact old log new counts key kept =
    counts.at_each_key key ∙ ap (λ entries. kept_after (kept_at key old) entries) (sym (same_for key log counts.added counts.lost counts.split others))
  where
    apart : (entry : Run) → ((other : CountKey) → is_for other entry ≡ true → kept_at other old ≡ None) → is_for key entry ≡ false
    apart entry none = by (is_for key entry) refl
      where
        by : (own : Bool) → is_for key entry ≡ own → is_for key entry ≡ false
        by true is = let impossible : IsSome {T = Counts} None = subst (λ (o : Option Counts). IsSome o) (none key is) kept in cc
        by false is = is

    others : All (λ entry. is_for key entry ≡ false) counts.lost
    others = All-weaker (λ entry. (other : CountKey) → is_for other entry ≡ true → kept_at other old ≡ None) _ apart counts.lost counts.kept_loses_none

-- the totals grow with each entry
pub conserves_nothing : (table : Table) → Conserves table [] table
conserves_nothing table = record {
  delivered = λ fits. omega arith;
  dropped = λ fits. omega arith;
  no_members = λ fits. omega arith;
  send_failed = λ fits. omega arith;
  bytes = λ fits. omega arith;
}

grows : (f : Counts → ℕ) (old mid new : Table) (log : List Run) (entry : Run) → GrowsBy (total f old) (sum_by (λ e. f e.counts) log) (total f mid)
    → GrowsBy (total f mid) (f entry.counts) (total f new) → GrowsBy (total f old) (sum_by (λ e. f e.counts) (log ++ entry ∷ [])) (total f new)
grows f old mid new log entry before step fits =
    let more = sum_by_push (λ (e : Run). f e.counts) log entry in
    let now = before (omega (arith, more, fits)) in
    let next = step (omega (arith, more, fits, now)) in
    omega (arith, more, now, next)

pub conserves_step : (old mid new : Table) (log : List Run) (entry : Run) → Conserves old log mid → GrowsEach mid entry.counts new → Conserves old (log ++ entry ∷ []) new
conserves_step old mid new log entry before step = record {
  delivered = grows (λ c. c.delivered) old mid new log entry before.delivered step.delivered;
  dropped = grows (λ c. c.dropped) old mid new log entry before.dropped step.dropped;
  no_members = grows (λ c. c.no_members) old mid new log entry before.no_members step.no_members;
  send_failed = grows (λ c. c.send_failed) old mid new log entry before.send_failed step.send_failed;
  bytes = grows (λ c. c.bytes) old mid new log entry before.bytes step.bytes;
}

-- what a loop over a log keeps
pub record IsCountedSoFar (old : Table) (log : List Run) (now : Table) : Type 0 where
  pub counts : CountsLog old log now
  pub conserved : Conserves old log now

pub counted_none : (table : Table) → IsCountedSoFar table [] table
counted_none table = record { counts = none_yet table; conserved = conserves_nothing table }

pub counted_step : (old mid new : Table) (log : List Run) (entry : Run) (key : CountKey) (counts : Counts) → IsCountedSoFar old log mid → key ≡ entry.key
    → counts ≡ entry.counts → AddsAt key counts mid new → GrowsEach mid counts new → IsCountedSoFar old (log ++ entry ∷ []) new
counted_step old mid new log entry key counts so_far is_key is adds grows = record {
  counts = steps old mid log so_far.counts entry new key (sym is_key) (subst (λ (c : Counts). AddsAt key c mid new) is adds);
  conserved = conserves_step old mid new log entry so_far.conserved (subst (λ (c : Counts). GrowsEach mid c new) is grows);
}

-- the same at a place of a log
pub counted_step_at : (old mid new : Table) (log : List Run) (i : ℕ) (d : Run) (key : CountKey) (counts : Counts) → i < length log → IsCountedSoFar old (take i log) mid
    → key ≡ (get_or log i d).key → counts ≡ (get_or log i d).counts → AddsAt key counts mid new → GrowsEach mid counts new → IsCountedSoFar old (take (i + 1) log) new
counted_step_at old mid new log i d key counts inside so_far is_key is adds grows =
    rw (take_more log i d inside) (counted_step old mid new (take i log) (get_or log i d) key counts so_far is_key is adds grows)

-- and after the loop over the runs before the last one, with the last run or without one
module _ (old mid : Table) (log items : List Run) (i : ℕ) (earlier : items ≡ earlier_runs log) (ended : length items ≤ i)
    (so_far : IsCountedSoFar old (take i items) mid) where
  before-last : IsCountedSoFar old (earlier_runs log) mid
  before-last = subst (λ (entries : List Run). IsCountedSoFar old entries mid) (take_all i items ended ∙ earlier) so_far

  pub counted-last : (new : Table) (last : Run) → Some last ≡ last_run log → AddsAt last.key last.counts mid new → GrowsEach mid last.counts new
      → IsCountedSoFar old log new
  counted-last new last there adds grows =
      subst (λ (entries : List Run). IsCountedSoFar old entries new) (all-runs log last there)
      (counted_step old mid new (earlier_runs log) last last.key last.counts before-last refl refl adds grows)

  pub counted-all : None ≡ last_run log → IsCountedSoFar old log mid
  counted-all none = subst (λ (entries : List Run). IsCountedSoFar old entries mid) (no-runs log none) before-last
