use Rattle.serve_stream.proofs.ReadLemmas.{empty_is, none_read, not_ended, not_failed, not_open, not_yet, read_end, read_failed, read_none, read_some}
use Rattle.serve_stream.proofs.conversation.Conversation.read.Goals as goal

pub returns-then-not-is : goal.returns-then-not-is
returns-then-not-is g c = not_open (g.S.Stream.log c.args.stream.now) c.args.self.now (λ open_stage. absurd (cc (c.is.ensures.1 open_stage, c.if-not-is.true)))

pub returns-then-not-is_empty : goal.returns-then-not-is_empty
returns-then-not-is_empty g c = none_read (g.S.Stream.log c.args.stream.now) c.args.self.now

pub returns-in-Bytes : goal.returns-in-Bytes
returns-in-Bytes g c =
    read_some (g.S.Stream.log c.args.stream.now) (g.S.Stream.log c.read.new.stream) c.args.self.now (c.is.ensures.0 c.if-not-is.false)
    (empty_is c.is_empty.result c.bytes.result.now c.args.self.now.unread c.bytes.ensures c.is_empty.ensures c.if-not-is_empty.false) c.read.result c.read.new.self c.read.ensures (λ is. not_yet c.read.result is c.in-Bytes.is) (λ is. not_failed c.read.result is c.in-Bytes.is) (λ is. not_ended c.read.result is c.in-Bytes.is)

pub returns-in-NotYet : goal.returns-in-NotYet
returns-in-NotYet g c =
    read_none (g.S.Stream.log c.args.stream.now) (g.S.Stream.log c.read.new.stream) c.args.self.now (c.is.ensures.0 c.if-not-is.false)
    (empty_is c.is_empty.result c.bytes.result.now c.args.self.now.unread c.bytes.ensures c.is_empty.ensures c.if-not-is_empty.false) c.read.result c.read.new.self c.read.ensures c.in-NotYet.is

pub returns-in-Ended : goal.returns-in-Ended
returns-in-Ended g c =
    read_end (g.S.Stream.log c.args.stream.now) (g.S.Stream.log c.read.new.stream) c.args.self.now (c.is.ensures.0 c.if-not-is.false)
    (empty_is c.is_empty.result c.bytes.result.now c.args.self.now.unread c.bytes.ensures c.is_empty.ensures c.if-not-is_empty.false) c.read.result c.read.new.self c.read.ensures c.in-Ended.is

pub returns-in-Failed : goal.returns-in-Failed
returns-in-Failed g c =
    read_failed (g.S.Stream.log c.args.stream.now) (g.S.Stream.log c.read.new.stream) c.args.self.now (c.is.ensures.0 c.if-not-is.false)
    (empty_is c.is_empty.result c.bytes.result.now c.args.self.now.unread c.bytes.ensures c.is_empty.ensures c.if-not-is_empty.false) c.read.result c.read.new.self c.read.ensures c.in-Failed.is
