use Rattle.selector_buckets.proofs.DrainLemmas.{fewest_more}
use Rattle.selector_buckets.proofs.drain.fewest.Goals as goal

pub loop-other-preserved : goal.loop-other-preserved
loop-other-preserved c = fewest_more c.args.members.now c.args.gone c.loop-other.other c.loop-other.taker c.fewer-taker.result c.loop-other.invariant c.fewer-taker.ensures
