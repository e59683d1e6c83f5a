use Rattle.std.proofs.Common.{◌∙◌}
use Rattle.selector_buckets.proofs.DrainLemmas.{handed_here, handed_not, none_handed}
use Rattle.selector_buckets.proofs.drain.hand_over.Goals as goal
use Rattle.selector_buckets.proofs.drain.hand_over.Goals.{else-members-bucket, then-members-bucket}

pub loop-bucket-init : goal.loop-bucket-init
loop-bucket-init c = none_handed c.args.count c.args.gone c.args.members.now

pub loop-bucket-preserved : goal.loop-bucket-preserved
loop-bucket-preserved c = elim c.if-members-bucket.branch [
  | then-members-bucket w ↦ w.members-is ∙ handed_here c.args.count c.args.gone c.loop-bucket.bucket c.args.members.now c.loop-bucket.members c.loop-bucket.invariant w.fewest.result w.if-members-bucket.true w.fewest.ensures
  | else-members-bucket w ↦ w.members-is ∙ handed_not c.args.count c.args.gone c.loop-bucket.bucket c.args.members.now c.loop-bucket.members c.loop-bucket.invariant w.if-members-bucket.false
]
