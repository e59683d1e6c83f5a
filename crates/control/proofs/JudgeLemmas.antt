-- Configurations that agree make the same of a packet.
use Rattle.std.proofs.Common.{◌≡◌, ◌∙◌, ◌++◌, ◌<◌, List, None, Option, Some, ap, append_assoc, codes, decimal, is_some, refl, subst, sym, ℕ}
use Rattle.std.proofs.lemmas.List.{get_or_default}
use Rattle.config_image.specs.Image.{Group}
use Rattle.filter_compile.specs.Answer.{IsPacket}
use Rattle.dispatch.specs.Verdict.{returned, value_of, verdict}
use Rattle.control_line.specs.Agrees.{Agrees, TextConfig}
use Rattle.control_line.proofs.JudgeLemmas.{packet_is_judged}
use Rattle.control_line.specs.Packet.{SpellsPacket}
use Rattle.control_line.specs.Reading.{judged_answer}
use Rattle.control_line.specs.Reply.{judged_text, malformation_text, reply_text}
use Rattle.control.specs.Judged.{JudgesAsPacket, SaysWhyMalformed, line_reply, packet_reply}
use Rattle.control.specs.Script.{text_value}
use Rattle.hex.proofs.HexLemmas.{decode_of-ok}
use Rattle.packet_verdict.proofs.MalformedLemmas.{breaks_one}
use Rattle.packet_verdict.specs.Malformed.{malformation_of}
use Rattle.packet_verdict.specs.declared.malformed.Malformation.{Malformation}
use Rattle.packet_verdict.proofs.OverLemmas.{verdict-over}

-- configurations that agree have the same verdict
pub same_verdict : (text : TextConfig) (config : List Group) (packet : List ℕ) → Agrees text config → IsPacket packet → verdict value_of config packet ≡ verdict text_value text packet
same_verdict text config packet (pairs, text_is, config_is) bytes =
    ap (λ (c : List Group). verdict value_of c packet) config_is
    ∙ verdict-over (λ both. both.program) value_of (λ both p. text_value both.loaded p) packet (λ both. ap returned (both.ending packet bytes)) pairs
    ∙ sym (verdict-over (λ both. both.loaded) text_value (λ both p. text_value both.loaded p) packet (λ both. refl) pairs)
    ∙ ap (λ (c : TextConfig). verdict text_value c packet) (sym text_is)

-- ---- the reply to a line that judges

module _ (version : ℕ) (text : TextConfig) (config : List Group) (digits packet : List ℕ) (agrees : Agrees text config) (spells : SpellsPacket digits packet) where
  is_packet : IsPacket packet
  is_packet = record {
    bytes = λ k d inside. subst (λ (byte : ℕ). byte < 256) (get_or_default packet k 0 d inside) ((decode_of-ok digits packet spells.spells).3 k);
    not_too_long = spells.not_too_long;
  }

  reply_is : (why : Option Malformation) → malformation_of packet ≡ why → line_reply version config digits ≡ reply_text (judged_answer version why (verdict value_of config packet))
  reply_is why is =
      ap reply_text (sym (packet_is_judged version config digits packet spells.spells spells.not_too_long))
      ∙ ap (λ w. reply_text (judged_answer version w (verdict value_of config packet))) is

  same : verdict value_of config packet ≡ verdict text_value text packet
  same = same_verdict text config packet agrees is_packet

  judged_whole : malformation_of packet ≡ None → line_reply version config digits ≡ packet_reply version text packet
  judged_whole none = reply_is None none ∙ ap (judged_text version) same

  judged_malformed : (why : Malformation) → malformation_of packet ≡ Some why → line_reply version config digits ≡ packet_reply version text packet ++ (codes " " ++ malformation_text why)
  judged_malformed why is =
      let malformed = (breaks_one config packet).1 (ap (λ (o : Option Malformation). is_some o) is) in
      reply_is (Some why) is
      ∙ regrouped (decimal version) (malformation_text why)
      ∙ ap (λ judged. judged_text version judged ++ (codes " " ++ malformation_text why)) (sym malformed ∙ same)
    where
      regrouped : (number name : List ℕ) → codes "version " ++ number ++ codes " malformed " ++ name ≡ (codes "version " ++ number ++ codes " " ++ codes "malformed") ++ (codes " " ++ name)
      regrouped number name = simp append_assoc

pub judges_as_packet : JudgesAsPacket
judges_as_packet version text config digits packet agrees spells none = judged_whole version text config digits packet agrees spells none

pub says_why_malformed : SaysWhyMalformed
says_why_malformed version text config digits packet why agrees spells is = judged_malformed version text config digits packet agrees spells why is
