-- The answer to a control datagram, and its effect (docs/COMMANDS.md, "serve").
use Rattle.std.specs.Prelude.{◌≡◌, ◌≢◌, List, None, Option, Some, codes, ℕ}
use Rattle.control_line.specs.Answer.{IsAnswered}
use Rattle.control_line.specs.Reply.{reply_text}
use Rattle.control_line.specs.declared.reply.LineAnswer.{LineAnswer}
use Rattle.ipv4_fields.specs.declared.endpoint.Endpoint.{Endpoint}
use Rattle.dispatch.specs.Tally.{TallyValue, all_loaded}
use Rattle.dispatch.specs.Totals.{totals_text}
use Rattle.dispatch.specs.declared.kind.Totals.{Totals}
use Rattle.member_counts.specs.Table.{Table}
use Rattle.read_section.specs.Operator.{OperatorValue}
use Rattle.serve_control.specs.Ignored.{IsIgnored}
use Rattle.serve_control.specs.Members.{IsAskable, IsCountsReply, Settles, asked_text}
use Rattle.member_counts.specs.declared.key.CountKey.{CountKey}
use Rattle.serve_control.specs.declared.ignored.BoundAddresses.{BoundAddresses}
use Rattle.serve_control.specs.declared.ControlAnswer.{ControlAnswer}
use Rattle.serve_control.specs.declared.ControlAnswer.TheVariants.{Line, Stop, Totals as TotalsAnswer}

-- it is none of the texts that are no control line's
pub record IsOther (text : List ℕ) : Type 0 where
  pub not_stop : text ≢ codes "stop"
  pub not_totals : text ≢ codes "totals"
  pub not_counters : (asked : CountKey) → IsAskable asked → text ≢ asked_text asked

-- the reply to a control line, or the reply if memory was refused and so nothing was done
pub data RepliesToLine (text : List ℕ) (before after : OperatorValue) : List ℕ → Type 0 where
  replied : (answer : LineAnswer) → IsAnswered text before after answer → RepliesToLine text before after (reply_text answer)
  no_memory : after ≡ before → RepliesToLine text before after (codes "failed E3")

-- the state that answers a request: the operator, the tally, and the table of counters by member, if it is known
pub record Service : Type 0 where
  pub operator : OperatorValue
  pub tally : TallyValue
  pub members : Option Table

-- one case for each kind of text; everything that a case does not mention is unchanged
pub data AnswersText (text : List ℕ) (before after : Service) : ControlAnswer → Type 0 where
  stops : text ≡ codes "stop" → after ≡ before → AnswersText text before after Stop
  tells_totals : (totals : Totals) → text ≡ codes "totals" → after ≡ record before { tally = all_loaded totals before.tally } →
      AnswersText text before after (TotalsAnswer totals)
  tells_counters : (asked : CountKey) (reply : List ℕ) → IsAskable asked → text ≡ asked_text asked → after ≡ record before { members = after.members } →
      Settles before.operator before.members after.members → IsCountsReply before.operator after.members asked reply →
      AnswersText text before after (Line reply)
  answers_line : (reply : List ℕ) → IsOther text → RepliesToLine text before.operator after.operator reply → after.tally ≡ before.tally →
      Settles after.operator before.members after.members → AnswersText text before after (Line reply)

-- a datagram is ignored, and nothing is done; or its text is answered
pub data AnswersDatagram (bound : BoundAddresses) (sender : Endpoint) (text : List ℕ) (before after : Service) : Option ControlAnswer → Type 0 where
  ignores : IsIgnored bound sender text → after ≡ before → AnswersDatagram bound sender text before after None
  answers : (answer : ControlAnswer) → ¬ IsIgnored bound sender text → AnswersText text before after answer →
      AnswersDatagram bound sender text before after (Some answer)

-- the answer is the line of the totals
abbrev pub IsTotals : ControlAnswer → Type 0
IsTotals Stop = ⊥
IsTotals (TotalsAnswer totals) = Unit {0}
IsTotals (Line reply) = ⊥

-- the bytes that are sent back
abbrev pub bytes_of : ControlAnswer → List ℕ
bytes_of Stop = codes "ok stop"
bytes_of (TotalsAnswer totals) = totals_text totals
bytes_of (Line reply) = reply
