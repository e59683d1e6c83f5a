-- Why a switch could not be asked: as the failure of a command (docs/COMMANDS.md, "Statuses"), and what happened on the wire.
use Rattle.std.specs.Prelude.{List, Option, ℕ}
use Rattle.command_line.specs.declared.ending.Failure.{Failure}
use Rattle.command_line.specs.declared.ending.Failure.TheVariants as failure
use Rattle.control_client.specs.Exchange.{Asks, IsCutOff, IsUnanswered}
use Rattle.control_client.specs.Wire.{Event, Logs}
use Rattle.control_client.specs.declared.device.Peer.{Peer}
use Rattle.control_rules.specs.declared.ask_failure.AskFailure.{AskFailure}
use Rattle.control_rules.specs.declared.ask_failure.AskFailure.TheVariants.{BindFailed, NoAnswer, OutOfMemory, PollFailed, ReadFailed, RulesChanged}

abbrev pub failure_of : AskFailure → Failure
failure_of ReadFailed = failure.ReadFailed
failure_of OutOfMemory = failure.OutOfMemory
failure_of BindFailed = failure.BindFailed
failure_of PollFailed = failure.PollFailed
failure_of NoAnswer = failure.NoAnswer
failure_of RulesChanged = failure.RulesChanged

-- such events were all that happened on the wire
abbrev pub Happens : (List Event → Type 0) → Option (List Event) → Option (List Event) → Type 0
Happens AreSuch log log' = (events : List Event) × AreSuch events × Logs log log' events

-- how asking a line fails. If memory is refused, it is refused for the reply, which came
abbrev pub AskEndsBy : AskFailure → Peer → List ℕ → Option (List Event) → Option (List Event) → Type 0
AskEndsBy NoAnswer switch line log log' = Happens (IsUnanswered switch line) log log'
AskEndsBy PollFailed switch line log log' = Happens (IsCutOff switch line) log log'
AskEndsBy OutOfMemory switch line log log' = (reply : List ℕ) × Asks switch line reply log log'
AskEndsBy ReadFailed switch line log log' = ⊥
AskEndsBy BindFailed switch line log log' = ⊥
AskEndsBy RulesChanged switch line log log' = ⊥
