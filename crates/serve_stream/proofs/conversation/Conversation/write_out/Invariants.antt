use Rattle.serve_stream.specs.body.Waiting.{IsWritingOut}
use Rattle.serve_stream.proofs.conversation.Conversation.write_out.Given as goal

abbrev pub invariant-loop-count : goal.invariant-loop-count
invariant-loop-count g l = IsWritingOut (g.S.Stream.log l.fn.stream) (g.S.Stream.log l.stream) l.fn.self l.self l.count l.most
