-- How a request was answered.
use Rattle.std.specs.Prelude.{◌≡◌, ◌++◌, List, None, Some, ℕ}
use Rattle.serve_stream.specs.declared.replies.Answered.{Answered}
use Rattle.serve_stream.specs.Answers.{Exchange, line_of, replied, unanswered}

-- the reply was added to those that wait, but for its last bytes
abbrev pub IsReply : Exchange → List ℕ → List ℕ → Answered → Type 0
IsReply (replied request reply after) before later answered = (answered.after ≡ Some after) × (later ++ answered.last.now ≡ before ++ line_of (replied request reply after))
IsReply (unanswered request) before later answered = (answered.after ≡ None) × (later ++ answered.last.now ≡ before ++ line_of (unanswered request))
