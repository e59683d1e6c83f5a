use Rattle.std.proofs.Common.{◌≡◌, ◌≤◌, take}
use Rattle.selector_buckets.specs.Shares.{share_of}
use Rattle.selector_buckets.proofs.drain.share.Given as goal

abbrev pub invariant-loop-other : goal.invariant-loop-other
invariant-loop-other l = (l.share ≡ share_of (take l.other-index l.members) l.member) × (l.share ≤ l.other-index)
