use Rattle.std.proofs.Common.{◌≡◌, ◌-◌, ◌≤◌, [], length}
use Rattle.serve_stream.specs.declared.conversation.Stage.TheVariants.{Open, Over}
use Rattle.serve_stream.specs.body.Waiting.{AnswersFew}
use Rattle.serve_stream.proofs.conversation.Conversation.answer_few.Given as goal

abbrev pub invariant-loop-left : goal.invariant-loop-left
invariant-loop-left g l =
    (l.left ≤ l.budget)
    × AnswersFew g.A.Answers.exchanges (l.budget - l.left) l.fn.answers l.answers l.fn.self l.self
    × (l.fn.self.unread ≡ [] → l.self.unread ≡ [])
    × (l.self.stage ≡ Open → l.fn.self.stage ≡ Open)
    × (l.fn.self.stage ≡ Over → l.self.stage ≡ Over)

abbrev pub decreases-loop-left : goal.decreases-loop-left
decreases-loop-left g l = length l.self.unread
