use Rattle.std.proofs.Common.{◌∙◌, subst, sym}
use Rattle.command_line.proofs.EndingLemmas.{HasWritten, writes_more}
use Rattle.command_streams.proofs.writing.write_whole.Goals as goal

pub loop-rest-preserved : goal.loop-rest-preserved
loop-rest-preserved g c =
    let start = g.W.CountedWrite.contents c.args.out.now in
    let mid = g.W.CountedWrite.contents c.loop-rest.out in
    let end = g.W.CountedWrite.contents c.write.new.self in
    let before = c.loop-rest.invariant in let wrote = c.in-Ok.ensures in (
      subst (HasWritten start end c.args.bytes.now) (sym c.split_at.ensures.back)
          (writes_more start mid end c.args.bytes.now c.loop-rest.rest.now c.in-Ok.size before.0 wrote.takes_front),
      wrote.device_failed ∙ before.1,
    )
