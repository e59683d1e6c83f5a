use Rattle.serve_stream.proofs.WriteLemmas.{stopped}
use Rattle.serve_stream.proofs.conversation.Conversation.stop.Goals as goal

pub returns-clause-stopped : goal.returns-clause-stopped
returns-clause-stopped g c =
    stopped (g.S.Stream.log c.args.stream.now) (g.S.Stream.log c.write_out.new.stream) c.args.self.now c.write_out.new.self c.requires c.write_out.ensures
