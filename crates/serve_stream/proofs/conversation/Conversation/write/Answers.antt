use Rattle.std.proofs.Common.{inl, inr}
use Rattle.serve_stream.proofs.WriteLemmas.{blocked, interrupts, not_written, was_false, was_true, write_failed, wrote}
use Rattle.serve_stream.proofs.conversation.Conversation.write.Goals as goal

pub returns-then-is : goal.returns-then-is
returns-then-is g c = not_written (g.S.Stream.log c.args.stream.now) c.args.self.now (inl (c.is.ensures.0 c.if-is.true))

pub returns-then-all_taken : goal.returns-then-all_taken
returns-then-all_taken g c = not_written (g.S.Stream.log c.args.stream.now) c.args.self.now (inr (c.all_taken.ensures.0 c.if-all_taken.true))

pub returns-in-Bytes : goal.returns-in-Bytes
returns-in-Bytes g c =
    wrote (g.S.Stream.log c.args.stream.now) (g.S.Stream.log c.write.new.self) c.args.self.now c.skip.new.self c.skip.ensures.kept (λ over. absurd (cc (c.is.ensures.1 over, c.if-is.false)))
    c.write.result c.next_bytes.result.now c.next_bytes.ensures c.write.ensures.logged c.in-Bytes.count _ c.all_taken-in-Bytes.result c.in-Bytes.is c.in-Bytes.ensures.within c.skip.ensures.skipped
    c.all_taken-in-Bytes.ensures (was_true c.all_taken-in-Bytes.result) (was_false c.all_taken-in-Bytes.result) (λ none. absurd (cc (c.all_taken.ensures.1 none, c.if-all_taken.false)))

pub returns-in-Interrupted : goal.returns-in-Interrupted
returns-in-Interrupted g c =
    interrupts (g.S.Stream.log c.args.stream.now) (g.S.Stream.log c.write.new.self) c.args.self.now (λ over. absurd (cc (c.is.ensures.1 over, c.if-is.false)))
    c.write.result c.next_bytes.result.now c.write.ensures.logged c.in-Interrupted.is (λ none. absurd (cc (c.all_taken.ensures.1 none, c.if-all_taken.false)))

pub returns-in-NotYet : goal.returns-in-NotYet
returns-in-NotYet g c =
    blocked (g.S.Stream.log c.args.stream.now) (g.S.Stream.log c.write.new.self) c.args.self.now (λ over. absurd (cc (c.is.ensures.1 over, c.if-is.false)))
    c.write.result c.next_bytes.result.now c.write.ensures.logged c.in-NotYet.is

pub returns-in-Failed : goal.returns-in-Failed
returns-in-Failed g c =
    write_failed (g.S.Stream.log c.args.stream.now) (g.S.Stream.log c.write.new.self) c.args.self.now (λ over. absurd (cc (c.is.ensures.1 over, c.if-is.false)))
    c.write.result c.next_bytes.result.now c.write.ensures.logged c.in-Failed.is
