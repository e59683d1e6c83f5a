-- What a contract sees of a VerdictLog.
use Rattle.std.specs.Prelude.{◌∷◌, Bool, List, None, Option, Some, [], false, if◌then◌else◌, true, ℕ}
use Rattle.ipv4_fields.specs.declared.endpoint.Endpoint.{Endpoint}
use Rattle.packet_verdict.specs.declared.verdict.Verdict.{Verdict}
use Rattle.packet_verdict.specs.declared.verdict.Verdict.TheVariants as verdict
use Rattle.member_counts.specs.declared.counts.Counts.{Counts}
use Rattle.member_counts.specs.declared.key.CountKey.{CountKey}
use Rattle.member_counts.specs.declared.log.Run.{Run}
use Rattle.member_counts.specs.Counts.{delivered_one, dropped_one, failed_one, no_members_one, plus}
use Rattle.member_counts.specs.Key.{group_key, member_key, same_key}

-- the runs in their order, the number of runs for which there is room, whether the last packet that was counted was delivered and its
-- send has not failed, and the key of the last packet that was counted, which an empty log keeps
pub record Log : Type 0 where
  pub entries : List Run
  pub room : ℕ
  pub sent : Bool
  pub kept : CountKey

-- a new log keeps a key that no member has
abbrev pub new_log : ℕ → Log
new_log room = record { entries = []; room = room; sent = false; kept = group_key (record { address = 0; port = 0 }) }

-- no run is left
abbrev pub cleared : Log → Log
cleared log = record log { entries = []; sent = false }

-- counts are added to the last run, if it has the key; otherwise they are a new run
abbrev pub with_run : CountKey → Counts → List Run → List Run
with_run key counts [] = record { key = key; counts = counts } ∷ []
with_run key counts (last ∷ []) =
    if same_key last.key key then record last { counts = plus last.counts counts } ∷ [] else last ∷ record { key = key; counts = counts } ∷ []
with_run key counts (first ∷ (next ∷ rest)) = first ∷ with_run key counts (next ∷ rest)

abbrev pub with_counts : CountKey → Counts → Bool → Log → Log
with_counts key counts sent log = record log { entries = with_run key counts log.entries; sent = sent; kept = key }

-- a verdict that names a member is counted
abbrev pub with_verdict : Verdict → Log → Log
with_verdict verdict.Malformed log = log
with_verdict verdict.NoGroup log = log
with_verdict verdict.NoMembers log = log
with_verdict (verdict.Dropped group member) log = with_counts (member_key group member) dropped_one false log
with_verdict (verdict.Deliver group member to bytes) log = with_counts (member_key group member) (delivered_one bytes) true log

abbrev pub with_no_members : Endpoint → Log → Log
with_no_members group log = with_counts (group_key group) no_members_one false log

-- the key of the last run; if there is none, the key that is kept
abbrev pub last_key : CountKey → List Run → CountKey
last_key kept [] = kept
last_key kept (last ∷ []) = last.key
last_key kept (first ∷ (next ∷ rest)) = last_key kept (next ∷ rest)

-- counts of the key need no room: the last run has it, or there is no run, and the key is kept
abbrev pub has_key : CountKey → Log → Bool
has_key key log = same_key (last_key log.kept log.entries) key

-- a verdict names no member, or the member of that key
abbrev pub begins_no_run : Verdict → Log → Bool
begins_no_run verdict.Malformed log = true
begins_no_run verdict.NoGroup log = true
begins_no_run verdict.NoMembers log = true
begins_no_run (verdict.Dropped group member) log = has_key (member_key group member) log
begins_no_run (verdict.Deliver group member to bytes) log = has_key (member_key group member) log

-- a verdict delivers to the member of that key
abbrev pub delivers_again : Verdict → Log → Bool
delivers_again verdict.Malformed log = false
delivers_again verdict.NoGroup log = false
delivers_again verdict.NoMembers log = false
delivers_again (verdict.Dropped group member) log = false
delivers_again (verdict.Deliver group member to bytes) log = has_key (member_key group member) log

-- one failed send more in the last run
abbrev pub last_failed : List Run → List Run
last_failed [] = []
last_failed (last ∷ []) = record last { counts = plus last.counts failed_one } ∷ []
last_failed (first ∷ (next ∷ rest)) = first ∷ last_failed (next ∷ rest)

-- only a delivered packet has a send that fails, and it fails once
abbrev pub marked_failed : Log → Log
marked_failed log = if log.sent then record log { entries = last_failed log.entries; sent = false } else log

-- the runs before the last one
abbrev pub earlier_runs : List Run → List Run
earlier_runs [] = []
earlier_runs (last ∷ []) = []
earlier_runs (first ∷ (next ∷ rest)) = first ∷ earlier_runs (next ∷ rest)

-- the last run
abbrev pub last_run : List Run → Option Run
last_run [] = None
last_run (last ∷ []) = Some last
last_run (first ∷ (next ∷ rest)) = last_run (next ∷ rest)

-- a run is counted by the key
abbrev pub is_for : CountKey → Run → Bool
is_for key run = same_key key run.key
