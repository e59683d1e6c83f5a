-- The reply to a line that judges a packet, and the reply to the packet (docs/COMMANDS.md, "Judging a packet").
use Rattle.std.specs.Prelude.{◌≡◌, ◌++◌, List, None, Some, codes, ℕ}
use Rattle.config_image.specs.Image.{Group}
use Rattle.packet_verdict.specs.Malformed.{malformation_of}
use Rattle.packet_verdict.specs.Verdict.{verdict}
use Rattle.packet_verdict.specs.declared.malformed.Malformation.{Malformation}
use Rattle.control_line.specs.Agrees.{Agrees, TextConfig}
use Rattle.control_line.specs.Packet.{SpellsPacket}
use Rattle.control_line.specs.Reading.{reading_answer, verdict_on}
use Rattle.control_line.specs.Reply.{judged_text, malformation_text, reply_text}
use Rattle.control.specs.Script.{text_value}

-- the reply to a line that judges, from the operator's configuration
abbrev pub line_reply : ℕ → List Group → List ℕ → List ℕ
line_reply version config digits = reply_text (reading_answer (λ program. program.words) version config (verdict_on digits))

-- the reply to the packet, as the texts mean it
abbrev pub packet_reply : ℕ → TextConfig → List ℕ → List ℕ
packet_reply version text packet = judged_text version (verdict text_value text packet)

-- both are the same, unless the packet is malformed
abbrev pub JudgesAsPacket : Type 0
JudgesAsPacket =
    (version : ℕ) (text : TextConfig) (config : List Group) (digits packet : List ℕ) → Agrees text config → SpellsPacket digits packet →
    malformation_of packet ≡ None → line_reply version config digits ≡ packet_reply version text packet

-- then the reply to the line says why, too
abbrev pub SaysWhyMalformed : Type 0
SaysWhyMalformed =
    (version : ℕ) (text : TextConfig) (config : List Group) (digits packet : List ℕ) (why : Malformation) → Agrees text config →
    SpellsPacket digits packet → malformation_of packet ≡ Some why →
    line_reply version config digits ≡ packet_reply version text packet ++ (codes " " ++ malformation_text why)
