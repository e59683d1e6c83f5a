use Rattle.std.proofs.Common.{◌<◌, get_or, ℕ}
use Rattle.selector_buckets.proofs.drain.has_members_only.Given as goal

abbrev pub invariant-loop-bucket : goal.invariant-loop-bucket
invariant-loop-bucket l = (before : ℕ) → before < l.bucket → get_or l.members before 0 < l.count
