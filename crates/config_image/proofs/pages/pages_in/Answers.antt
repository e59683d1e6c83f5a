use Rattle.std.proofs.Common.{arith}
use Rattle.config_image.proofs.PooledLemmas.{pages_from}
use Rattle.config_image.proofs.pages.pages_in.Goals as goal

pub loop-group-preserved : goal.loop-group-preserved
loop-group-preserved g c =
    let left = pages_from c.args.groups.now c.loop-group.group-index c.group-item.result c.loop-group-test.true c.group-item.is in
    let own = c.group_pages-pages.ensures.pages in
    (omega arith, omega arith)
