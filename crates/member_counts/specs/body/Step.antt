-- What one addition to a MemberTable does.
use Rattle.std.specs.Prelude.{◌≡◌, ◌⊎◌, None, Some, cond}
use Rattle.member_counts.specs.declared.counts.Counts.{Counts}
use Rattle.member_counts.specs.declared.key.CountKey.{CountKey}
use Rattle.member_counts.specs.Counts.{plus}
use Rattle.member_counts.specs.Key.{same_key}
use Rattle.member_counts.specs.Table.{GrowsBy, Table, joined, kept_at, total}

-- counts are added at a key, and nothing else changes
pub record IsKept (key : CountKey) (counts : Counts) (old new : Table) : Type 0 where
  pub at_each_key : (other : CountKey) → kept_at other new ≡ cond (same_key key other) (Some (joined (kept_at key old) counts)) (kept_at other old)
  pub gone : new.gone ≡ old.gone

-- they are added to what is gone, and the key was not kept
pub record IsLost (key : CountKey) (counts : Counts) (old new : Table) : Type 0 where
  pub absent : kept_at key old ≡ None
  pub entries : new.entries ≡ old.entries
  pub gone : new.gone ≡ plus old.gone counts

abbrev pub AddsAt : CountKey → Counts → Table → Table → Type 0
AddsAt key counts old new = IsKept key counts old new ⊎ IsLost key counts old new

-- each total grows by the counts
pub record GrowsEach (old : Table) (counts : Counts) (new : Table) : Type 0 where
  pub delivered : GrowsBy (total (λ c. c.delivered) old) counts.delivered (total (λ c. c.delivered) new)
  pub dropped : GrowsBy (total (λ c. c.dropped) old) counts.dropped (total (λ c. c.dropped) new)
  pub no_members : GrowsBy (total (λ c. c.no_members) old) counts.no_members (total (λ c. c.no_members) new)
  pub send_failed : GrowsBy (total (λ c. c.send_failed) old) counts.send_failed (total (λ c. c.send_failed) new)
  pub bytes : GrowsBy (total (λ c. c.bytes) old) counts.bytes (total (λ c. c.bytes) new)
