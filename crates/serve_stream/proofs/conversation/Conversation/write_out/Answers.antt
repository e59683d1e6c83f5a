use Rattle.std.proofs.Common.{ap, arith, length, length-append}
use Rattle.serve_stream.proofs.WriteLemmas.{out_done, out_hindered, writing_more, writing_none}
use Rattle.serve_stream.proofs.conversation.Conversation.write_out.Goals as goal

pub loop-count-init : goal.loop-count-init
loop-count-init g c =
    let len = ap length c.bytes.ensures in
    writing_none (g.S.Stream.log c.args.stream.now) c.args.self.now _ (omega (arith, len, length-append c.args.self.now.replies c.args.self.now.last.now))

pub loop-count-preserved : goal.loop-count-preserved
loop-count-preserved g c =
    writing_more (g.S.Stream.log c.args.stream.now) (g.S.Stream.log c.loop-count.stream) (g.S.Stream.log c.write.new.stream) c.args.self.now c.loop-count.self c.write.new.self c.loop-count.count _ c.loop-count.invariant c.if-not-write.ensures

pub returns-then-not-write : goal.returns-then-not-write
returns-then-not-write g c =
    out_hindered (g.S.Stream.log c.args.stream.now) (g.S.Stream.log c.loop-count.stream) (g.S.Stream.log c.write.new.stream) c.args.self.now c.loop-count.self c.write.new.self c.loop-count.count _ c.loop-count.invariant
    c.requires c.if-not-write.ensures

pub returns : goal.returns
returns g c =
    out_done (g.S.Stream.log c.args.stream.now) (g.S.Stream.log c.loop-count.stream) (g.S.Stream.log c.loop-count.stream) c.args.self.now c.loop-count.self c.loop-count.self c.loop-count.count _ c.loop-count.invariant
    (omega (arith, c.loop-count-test.false))
