use Rattle.std.proofs.Common.{◌≡◌, ◌<◌, length}
use Rattle.selector_buckets.specs.Shares.{greatest}
use Rattle.selector_buckets.proofs.share.greatest.Given as goal

abbrev pub invariant-loop-i : goal.invariant-loop-i
invariant-loop-i l = (l.place ≡ greatest l.numbers l.i) × (l.place < length l.numbers)
