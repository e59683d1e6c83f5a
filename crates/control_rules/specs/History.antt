-- The configurations of a switch, by its replies. Each reply shows the configuration of one version (docs/COMMANDS.md, "rules").
use Rattle.std.specs.Prelude.{◌≡◌, ◌≤◌, ◌⊎◌, List, Option, codes, length, ℕ}
use Rattle.std.specs.List.{All}
use Rattle.config_image.specs.Image.{Group}
use Rattle.member_group.specs.Charge.{charge_of, members_of}
use Rattle.member_group.specs.Group.{IsConfig}
use Rattle.versions.specs.declared.layout.TheConstants.{LAST_NUMBER}
use Rattle.control_line.specs.Reading.{Reading, reading_answer}
use Rattle.control_line.specs.Reply.{reply_text}
use Rattle.control_line.specs.Request.{Spells, read}
use Rattle.control_line.specs.declared.reply.LineAnswer.{LineAnswer}
use Rattle.control_line.specs.declared.reply.LineAnswer.TheVariants.{Shown}
use Rattle.control_client.specs.Exchange.{AreExchanged, Exchange}
use Rattle.control_client.specs.Wire.{Event, Logs}
use Rattle.control_client.specs.declared.device.Peer.{Peer}

-- the configuration of each version of a switch
abbrev pub History : Type 0
History = ℕ → List Group

abbrev pub AreConfigs : History → Type 0
AreConfigs history = (version : ℕ) → IsConfig (history version)

-- the reply to `show`
abbrev pub measures : ℕ → List Group → LineAnswer
measures version config = Shown version (length config) (members_of config) (charge_of config)

-- the reply to a line that reads, or to `show`, is right for some version. The reply names it
pub record IsTrueTo (history : History) (one : Exchange) : Type 0 where
  pub reads : (reading : Reading) → Spells one.line (read reading) →
      (version : ℕ) × (version ≤ LAST_NUMBER)
      × (one.reply ≡ reply_text (reading_answer (λ program. program.words) version (history version) reading))
  pub shows : one.line ≡ codes "show" → (version : ℕ) × (version ≤ LAST_NUMBER) × (one.reply ≡ reply_text (measures version (history version)))

-- a client as contracts see it: the switch that it asks, and what happened on its wire
pub record ClientValue : Type 0 where
  pub switch : Peer
  pub log : Option (List Event)

-- a line that changes nothing: `show`, or one that reads a part
abbrev pub IsReadLine : List ℕ → Type 0
IsReadLine line = (line ≡ codes "show") ⊎ ((reading : Reading) × Spells line (read reading))

-- lines that change nothing were exchanged, and no others, and this is true for each history that all of their replies are true to
pub record Learns (before after : ClientValue) (Holds : History → Type 0) : Type 0 where
  pub told : List Exchange
  pub events : List Event
  pub are_exchanged : AreExchanged before.switch told events
  pub logged : Logs before.log after.log events
  pub same_switch : after.switch ≡ before.switch
  pub reads_only : All (λ one. IsReadLine one.line) told
  pub holds : (history : History) → AreConfigs history → All (IsTrueTo history) told → Holds history
