-- A request that is not answered since memory is refused: nothing is appended, and the rules and the log stay as they were.
use Rattle.std.proofs.Common.{◌≡◌, ◌⊎◌, ◌<◌, ◌≤◌, List, Option, Result, ap, arith, inl, inr, refl, ℕ}
use Rattle.std.proofs.lemmas.Bool.{false≢true}
use Rattle.std.specs.Result.{IsErr}
use Rattle.std.specs.declared.result.Result.TheVariants.{Err, Ok}
use Rattle.serve_control.specs.Answer.{AnswersText, IsTotals, Service, answers_line, stops, tells_counters, tells_totals}
use Rattle.serve_control.specs.declared.ControlAnswer.{ControlAnswer}
use Rattle.serve_control.specs.Desk.{AnswersAtDesk, LogsExchange}
use Rattle.serve_control.specs.declared.log.Peer.{Peer}
use Rattle.serve_stream.specs.Answers.{IsAnswered}
use Rattle.serve_stream.specs.declared.answers.After.{After}

totals_keep : (text : List ℕ) (before after : Service) (answer : ControlAnswer)
    → AnswersText text before after answer → IsTotals answer → after.operator ≡ before.operator
totals_keep text before after _ (stops is same) never = absurd never
totals_keep text before after _ (tells_totals totals is same) _ = ap (λ (s : Service). s.operator) same
totals_keep text before after _ (tells_counters asked reply able is same settles replies) never = absurd never
totals_keep text before after _ (answers_line reply is replies same_tally settles) never = absurd never

-- only the line of the totals finds no room where room was taken
pub rules_kept : (text : List ℕ) (before after : Service) (answer : ControlAnswer) (capacity needed : ℕ)
    → AnswersText text before after answer → needed ≤ capacity → (IsTotals answer ⊎ (capacity < needed)) → after.operator ≡ before.operator
rules_kept text before after answer capacity needed is room (inl totals) = totals_keep text before after answer is totals
rules_kept text before after answer capacity needed is room (inr small) = absurd (omega (arith, room, small))

pub unanswered_is : {E : Type 0} (before after : Service) (log : Option (List (List ℕ))) (peer : Peer)
    (request earlier later : List ℕ) (result : Result After E)
    → IsErr result → later ≡ earlier → after.operator ≡ before.operator
    → IsAnswered (λ exchange. AnswersAtDesk before after exchange × LogsExchange log log peer exchange × (peer ≡ peer))
    request earlier later result
unanswered_is before after log peer request earlier later (Ok answered) is same kept = absurd (false≢true is)
unanswered_is before after log peer request earlier later (Err fault) is same kept = (same, (kept, refl, refl))
