use Rattle.serve_stream.proofs.MoveLemmas.{all_said, too_slow}
use Rattle.serve_stream.proofs.conversation.Conversation.close_if_due.Goals as goal

pub returns-then-waits_too_long-clause-moves : goal.returns-then-waits_too_long-clause-moves
returns-then-waits_too_long-clause-moves c = too_slow c.args.self.now (c.waits_too_long.ensures.0 c.if-waits_too_long.true)

pub returns-then-all_taken-clause-moves : goal.returns-then-all_taken-clause-moves
returns-then-all_taken-clause-moves c = all_said c.args.self.now (c.is.ensures.0 c.if-is.true) (c.all_taken.ensures.0 c.if-all_taken.true)
