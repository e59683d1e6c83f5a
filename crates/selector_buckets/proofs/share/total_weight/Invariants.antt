use Rattle.std.proofs.Common.{◌≡◌, ◌*◌, ◌≤◌, take}
use Rattle.std.specs.Prelude.{sum}
use Rattle.selector_buckets.specs.Shares.{weights_of}
use Rattle.selector_buckets.proofs.share.total_weight.Given as goal

abbrev pub invariant-loop-share : goal.invariant-loop-share
invariant-loop-share l = (l.total ≡ sum (weights_of (take l.share-index l.shares))) × (l.total ≤ 65535 * l.share-index)
