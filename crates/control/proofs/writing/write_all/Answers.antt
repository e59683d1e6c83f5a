use Rattle.std.proofs.Common.{◌∙◌}
use Rattle.control.proofs.WritingLemmas.{written_further}
use Rattle.control.proofs.writing.write_all.Goals as goal

pub loop-left-preserved : goal.loop-left-preserved
loop-left-preserved g c =
    let so_far = c.loop-left.invariant in let gave = c.in_ok-size.ensures in (
      written_further (g.W.Output.state c.args.writer.now).taken (g.W.Output.state c.loop-left.writer).taken (g.W.Output.state c.write.new.self).taken c.args.bytes.now c.loop-left.left.now c.in_ok-size.size
          so_far.0 gave.takes_front,
      gave.device_failed ∙ so_far.1,
      gave.rest_kept ∙ so_far.2,
    )
