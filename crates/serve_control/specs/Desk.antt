-- The effect of an exchange at the desk (docs/COMMANDS.md, "serve").
use Rattle.std.specs.Prelude.{◌≡◌, List, Option, ℕ}
use Rattle.serve_control.specs.Answer.{AnswersText, Service, bytes_of}
use Rattle.serve_control.specs.Log.{TellsRequest}
use Rattle.serve_control.specs.declared.ControlAnswer.{ControlAnswer}
use Rattle.serve_control.specs.declared.ControlAnswer.TheVariants.{Line, Stop, Totals as TotalsAnswer}
use Rattle.serve_control.specs.declared.log.Peer.{Peer}
use Rattle.serve_stream.specs.Answers.{Exchange, replied, unanswered}
use Rattle.serve_stream.specs.declared.answers.After.{After}
use Rattle.serve_stream.specs.declared.answers.After.TheVariants.{GoesOn, Stops}

-- the service is to stop after the answer to `stop` alone
abbrev pub after_of : ControlAnswer → After
after_of Stop = Stops
after_of (TotalsAnswer totals) = GoesOn
after_of (Line reply) = GoesOn

-- a request is answered as the text of a datagram is; if memory was refused, the rules stay as they were
abbrev pub AnswersAtDesk : Service → Service → Exchange → Type 0
AnswersAtDesk before later (replied request reply after) =
    (answer : ControlAnswer) × AnswersText request before later answer × (reply ≡ bytes_of answer) × (after ≡ after_of answer)
AnswersAtDesk before later (unanswered request) = later.operator ≡ before.operator

-- the request has its line in the log, if it is one that is logged; one that was not answered has none
abbrev pub LogsExchange : Option (List (List ℕ)) → Option (List (List ℕ)) → Peer → Exchange → Type 0
LogsExchange log log' peer (replied request reply after) = TellsRequest log log' peer request reply
LogsExchange log log' peer (unanswered request) = log' ≡ log
