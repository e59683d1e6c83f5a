use Rattle.std.proofs.Common.{◌≡◌, ◌+◌}
use Rattle.std.specs.Prelude.{sum}
use Rattle.selector_buckets.specs.Shares.{given_more}
use Rattle.selector_buckets.proofs.share.give.Given as goal

abbrev pub invariant-loop-given : goal.invariant-loop-given
invariant-loop-given l =
    (given_more l._given (record { quotas = l.initial.quotas; remainders = l.initial.remainders }) ≡ record { quotas = l.quotas; remainders = l.remainders })
    × (sum l.quotas ≡ sum l.initial.quotas + l._given)
