use Rattle.std.proofs.Common.{arith}
use Rattle.std.proofs.Math.Nat.{mod-lt}
use Rattle.selector_buckets.proofs.TurnLemmas.{found_here, found_later, found_none}
use Rattle.selector_buckets.proofs.turns.next_free.Goals as goal

pub returns-then-table-bucket-clause-next : goal.returns-then-table-bucket-clause-next
returns-then-table-bucket-clause-next c =
    found_here c.args.table.now c.args.id c.skip-skip.result c.offset.result c.loop-tried._tried c.loop-tried.bucket c.skip-skip.ensures.skip c.offset.ensures.offset c.loop-tried.invariant.0 (omega (arith, c.loop-tried-test.true)) c.if-table-bucket.true

pub loop-tried-preserved : goal.loop-tried-preserved
loop-tried-preserved c = (
  found_later c.args.table.now c.args.id c.skip-skip.result c.offset.result c.loop-tried._tried c.loop-tried.bucket c.skip-skip.ensures.skip c.offset.ensures.offset c.loop-tried.invariant.0 (omega (arith, c.loop-tried-test.true)) c.if-table-bucket.false,
  mod-lt _ c.requires.some,
)

pub returns-clause-next : goal.returns-clause-next
returns-clause-next c =
    found_none c.args.table.now c.args.id c.skip-skip.result c.offset.result c.loop-tried._tried c.loop-tried.bucket c.skip-skip.ensures.skip c.offset.ensures.offset c.loop-tried.invariant.0 (omega (arith, c.loop-tried-test.false))
