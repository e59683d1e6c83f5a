-- What a contract sees of a MemberTable.
use Rattle.std.specs.Prelude.{◌≡◌, ◌+◌, ◌<◌, ◌^◌, ◌++◌, ◌∷◌, List, None, Option, Some, [], if◌then◌else◌, length, nat_lt, not, sum_by, true, ℕ}
use Rattle.std.specs.List.{All, filter, fold}
use Rattle.std.specs.Map.{lookup}
use Rattle.std.specs.Option.{unwrap_or}
use Rattle.bpf_verify.specs.Program.{ProgramValue}
use Rattle.ipv4_fields.specs.declared.endpoint.Endpoint.{Endpoint}
use Rattle.member_group.specs.Group.{GroupOf}
use Rattle.member_counts.specs.declared.TheConstants.{KEPT_LIMIT}
use Rattle.member_counts.specs.declared.counts.Counts.{Counts}
use Rattle.member_counts.specs.declared.counts.GroupCounts.{GroupCounts}
use Rattle.member_counts.specs.declared.counts.MemberCounts.{MemberCounts}
use Rattle.member_counts.specs.declared.key.CountKey.{CountKey}
use Rattle.member_counts.specs.declared.log.Run.{Run}
use Rattle.member_counts.specs.Counts.{capped, group_part, member_part, no_counts, plus}
use Rattle.member_counts.specs.Key.{has, member_key, same_group, same_key}
use Rattle.member_counts.specs.Log.{is_for}

-- the keys that are kept, with the counts of each, and the sum of the counts that are gone
pub record Table : Type 0 where
  pub entries : List (CountKey × Counts)
  pub gone : Counts

-- the counts at a key, if it is kept
abbrev pub kept_at : CountKey → Table → Option Counts
kept_at key table = lookup (same_key key) table.entries

-- of a member, zeros if its key is not kept
abbrev pub member_counts : Endpoint → ℕ → Table → MemberCounts
member_counts group member table = member_part (unwrap_or (kept_at (member_key group member) table) no_counts)

-- the sum over some keys
abbrev pub sum_of : List (CountKey × Counts) → Counts
sum_of entries = record {
  delivered = capped (sum_by (λ entry. entry.1.delivered) entries);
  dropped = capped (sum_by (λ entry. entry.1.dropped) entries);
  no_members = capped (sum_by (λ entry. entry.1.no_members) entries);
  send_failed = capped (sum_by (λ entry. entry.1.send_failed) entries);
  bytes = capped (sum_by (λ entry. entry.1.bytes) entries);
}

-- of a group: the sum over its kept keys, also those of members that left
abbrev pub group_counts : Endpoint → Table → GroupCounts
group_counts group table = group_part (sum_of (filter (λ entry. same_group entry.0.group group) table.entries))

-- the counts that are kept at a key, if any, and more
abbrev pub joined : Option Counts → Counts → Counts
joined None more = more
joined (Some counts) more = plus counts more

-- the counts that are kept at a key after runs of that key, each added in turn
abbrev pub kept_after : Option Counts → List Run → Option Counts
kept_after kept entries = fold (λ sum entry. Some (joined sum entry.counts)) kept entries

-- counts after runs, each added in turn
abbrev pub plus_all : Counts → List Run → Counts
plus_all counts entries = fold (λ sum entry. plus sum entry.counts) counts entries

-- counts after those of some keys, each added in turn
abbrev pub plus_kept : Counts → List (CountKey × Counts) → Counts
plus_kept counts entries = fold (λ sum entry. plus sum entry.1) counts entries

-- each element is in one of two lists, and both are in its order
pub data IsSplit {X : Type 0} : List X → List X → List X → Type 0 where
  nothing : IsSplit [] [] []
  one_added : (all added lost : List X) (x : X) → IsSplit all added lost → IsSplit (all ++ x ∷ []) (added ++ x ∷ []) lost
  one_lost : (all added lost : List X) (x : X) → IsSplit all added lost → IsSplit (all ++ x ∷ []) added (lost ++ x ∷ [])

-- Some runs of a log are added at their keys, and the others to the counts that are gone. A key that was kept loses none, and a
-- key to which no run is added stays as it was.
pub record CountsLog (old : Table) (log : List Run) (new : Table) : Type 0 where
  pub added : List Run
  pub lost : List Run
  pub split : IsSplit log added lost
  pub at_each_key : (key : CountKey) → kept_at key new ≡ kept_after (kept_at key old) (filter (is_for key) added)
  pub gone : new.gone ≡ plus_all old.gone lost
  pub kept_loses_none : All (λ entry. (key : CountKey) → is_for key entry ≡ true → kept_at key old ≡ None) lost

-- the total of one kind, kept or gone
abbrev pub total : (Counts → ℕ) → Table → ℕ
total kind table = sum_by (λ entry. kind entry.1) table.entries + kind table.gone

-- a total grows by this much, as long as it stays below 2^64
abbrev pub GrowsBy : ℕ → ℕ → ℕ → Type 0
GrowsBy before more after = before + more < 2 ^ 64 → after ≡ before + more

-- the totals grow by the counts of the runs, and by nothing else
pub record Conserves (old : Table) (entries : List Run) (new : Table) : Type 0 where
  pub delivered : GrowsBy (total (λ c. c.delivered) old) (sum_by (λ entry. entry.counts.delivered) entries) (total (λ c. c.delivered) new)
  pub dropped : GrowsBy (total (λ c. c.dropped) old) (sum_by (λ entry. entry.counts.dropped) entries) (total (λ c. c.dropped) new)
  pub no_members : GrowsBy (total (λ c. c.no_members) old) (sum_by (λ entry. entry.counts.no_members) entries) (total (λ c. c.no_members) new)
  pub send_failed : GrowsBy (total (λ c. c.send_failed) old) (sum_by (λ entry. entry.counts.send_failed) entries) (total (λ c. c.send_failed) new)
  pub bytes : GrowsBy (total (λ c. c.bytes) old) (sum_by (λ entry. entry.counts.bytes) entries) (total (λ c. c.bytes) new)

-- the keys that a configuration lacks are gone, and their counts are added in turn to the counts that are gone
abbrev pub without_lacking : List (GroupOf ProgramValue) → Table → Table
without_lacking config table = record {
  entries = filter (λ entry. has config entry.0) table.entries;
  gone = plus_kept table.gone (filter (λ entry. not (has config entry.0)) table.entries);
}

-- that, if more keys are kept than the limit
abbrev pub settled : List (GroupOf ProgramValue) → Table → Table
settled config table = if nat_lt KEPT_LIMIT (length table.entries) then without_lacking config table else table
