-- The requests of a script, and their replies (docs/COMMANDS.md, "replay"), by the texts and what they mean. Only replies that read a
-- program back contain compiled words.
use Rattle.std.specs.Prelude.{◌==◌, ◌≡◌, ◌+◌, ◌≤◌, ◌++◌, ◌∷◌, if◌then◌else◌, List, [], length, ℕ}
use Rattle.std.specs.List.{All}
use Rattle.dispatch.specs.Verdict.{returned, verdict}
use Rattle.retire.specs.declared.fault.PublishFault.TheVariants.{Busy}
use Rattle.control_line.specs.declared.TheConstants.{LINE_LIMIT}
use Rattle.control_line.specs.declared.head.Head.{Head}
use Rattle.control_line.specs.declared.reason.Reason.TheVariants.{PacketTooLong, Publishing}
use Rattle.control_line.specs.declared.reply.LineAnswer.{LineAnswer}
use Rattle.control_line.specs.declared.reply.LineAnswer.TheVariants.{GroupRead, LineRefused, MemberRead, PacketJudged, PacketMalformed, Published, Refused, Shown, Swept, WordsRead}
use Rattle.filter_tree.specs.Tree.{Tree}
use Rattle.control_line.specs.Agrees.{Compiler, LoadedProgram, TextConfig}
use Rattle.control_line.specs.Answer.{AnswersBy, by_function}
use Rattle.control_line.specs.Block.{HasHead, IsBlock, after_line_feeds}
use Rattle.control_line.specs.Reading.{Reading}
use Rattle.control_line.specs.Request.{Spells, read}
use Rattle.ipv4_fields.specs.Cut.{Lacks}
use Rattle.control.specs.PacketLine.{HasNoPacket, IsPacketLine}
use Rattle.control_line.specs.Packet.{SpellsPacket, SpellsTooMuch}
use Rattle.filter_program.specs.Program.{IsProgramFor, text_ending}
use Rattle.control_line.specs.Reason.{refusal_text}
use Rattle.control_line.specs.Reply.{judged_text, reply_text}

-- ---- requests

-- a text that has one reply: a line that does not begin a block, or a whole block
pub data IsRequest (text : List ℕ) : Type 0 where
  is_line : Lacks 10 text → ((head : Head) (rest : List ℕ) → ¬ HasHead text head rest) → IsRequest text
  is_block : (head : Head) (lines : List (List ℕ)) → IsBlock text head lines → IsRequest text

-- a request or the beginning of one: a line or a part of it, or a block that may lack lines
pub data BeginsRequest (text : List ℕ) : Type 0 where
  in_line : Lacks 10 text → BeginsRequest text
  in_block : (head : Head) (lines : List (List ℕ)) → HasHead text head (after_line_feeds lines) → All (Lacks 10) lines →
      length lines ≤ head.count → BeginsRequest text

-- a script with an LF after its last line, if the script lacks this LF; a script of no bytes has no line
abbrev pub with_last_lf : List ℕ → List ℕ
with_last_lf [] = []
with_last_lf (byte ∷ []) = if byte == 10 then 10 ∷ [] else byte ∷ 10 ∷ []
with_last_lf (byte ∷ next ∷ rest) = byte ∷ with_last_lf (next ∷ rest)

-- ---- replies

-- the state of a script: the current version, its configuration as the texts mean it, and how many versions were reported as free
pub record Standing : Type 0 where
  pub version : ℕ
  pub config : TextConfig
  pub reported : ℕ

-- version 0 has no groups
abbrev pub at_start : Standing
at_start = record { version = 0; config = []; reported = 0 }

-- the result of a text's program for a packet
abbrev pub text_value : LoadedProgram → List ℕ → ℕ
text_value program packet = returned (text_ending program.text packet)

-- Each worker is outside whenever a request is replied to. So a publication is never busy, and a sweep reports every version that was
-- replaced and not yet reported.
abbrev pub ComesInScript : Standing → LineAnswer → Type 0
ComesInScript now (Refused (Publishing Busy)) = ⊥
ComesInScript now (Refused why) = Unit {0}
ComesInScript now (LineRefused number why) = Unit {0}
ComesInScript now (Published version) = Unit {0}
ComesInScript now (Shown version groups members charge) = Unit {0}
ComesInScript now (GroupRead version index groups key members selector) = Unit {0}
ComesInScript now (MemberRead version index members id to filter locked) = Unit {0}
ComesInScript now (WordsRead version place count words) = Unit {0}
ComesInScript now (PacketJudged version judged) = Unit {0}
ComesInScript now (PacketMalformed version why) = Unit {0}
ComesInScript now (Swept reclaimed) = (reclaimed.first ≡ now.reported) × (reclaimed.first + reclaimed.count ≡ now.version)

-- the state of the script after an answer that leaves this configuration
abbrev pub standing_after : Standing → LineAnswer → TextConfig → Standing
standing_after now (Refused why) next = record now { config = next }
standing_after now (LineRefused number why) next = record now { config = next }
standing_after now (Published version) next = record now { version = version; config = next }
standing_after now (Shown version groups members charge) next = record now { config = next }
standing_after now (GroupRead version index groups key members selector) next = record now { config = next }
standing_after now (MemberRead version index members id to filter locked) next = record now { config = next }
standing_after now (WordsRead version place count words) next = record now { config = next }
standing_after now (PacketJudged version judged) next = record now { config = next }
standing_after now (PacketMalformed version why) next = record now { config = next }
standing_after now (Swept reclaimed) next = record now { config = next; reported = reclaimed.first + reclaimed.count }

-- the reply to a request, and the state of the script then, with expressions compiled by this compiler
pub data RepliesToBy (by : Compiler) (now : Standing) (request : List ℕ) : List ℕ → Standing → Type 0 where
  to_control : (answer : LineAnswer) (next : TextConfig) → HasNoPacket request →
      AnswersBy by now.version now.config request answer next → ComesInScript now answer →
      RepliesToBy by now request (reply_text answer) (standing_after now answer next)
  to_packet : (digits packet : List ℕ) → length request ≤ LINE_LIMIT → IsPacketLine request digits → SpellsPacket digits packet →
      RepliesToBy by now request (judged_text now.version (verdict text_value now.config packet)) now
  to_long_packet : (digits : List ℕ) → length request ≤ LINE_LIMIT → IsPacketLine request digits → SpellsTooMuch digits →
      RepliesToBy by now request (refusal_text PacketTooLong) now

-- requests that each end with LF, their replies, each with LF too, and the state of the script after them
pub data AreAnsweredBy (by : Compiler) : List ℕ → List ℕ → Standing → Type 0 where
  no_request : AreAnsweredBy by [] [] at_start
  one_more : (requests text request reply : List ℕ) (now next : Standing) → AreAnsweredBy by requests text now → IsRequest request →
      RepliesToBy by now request reply next →
      AreAnsweredBy by (requests ++ (request ++ 10 ∷ [])) (text ++ (reply ++ 10 ∷ [])) next

-- the text of a script: the replies to its requests, the last of which may lack lines
pub data IsScriptTextBy (by : Compiler) (script : List ℕ) : List ℕ → Type 0 where
  of_nothing : script ≡ [] → IsScriptTextBy by script []
  of_requests : (requests text request reply : List ℕ) (now last : Standing) → AreAnsweredBy by requests text now →
      BeginsRequest request → with_last_lf script ≡ requests ++ (request ++ 10 ∷ []) → RepliesToBy by now request reply last →
      IsScriptTextBy by script (text ++ (reply ++ 10 ∷ []))

-- the same with any compiler that makes programs for the trees that it is given
abbrev pub RepliesTo : Standing → List ℕ → List ℕ → Standing → Type 0
RepliesTo = RepliesToBy IsProgramFor

abbrev pub AreAnswered : List ℕ → List ℕ → Standing → Type 0
AreAnswered = AreAnsweredBy IsProgramFor

abbrev pub IsScriptText : List ℕ → List ℕ → Type 0
IsScriptText = IsScriptTextBy IsProgramFor

-- no part of a script is a line that reads
abbrev pub ReadsNothing : List ℕ → Type 0
ReadsNothing script = (front line back : List ℕ) (reading : Reading) → script ≡ front ++ (line ++ back) → ¬ Spells line (read reading)

-- a script without lines that read has one text
-- The reason: docs/INTERNALS.md, "A script has one text".
abbrev pub HasOneText : Type 0
HasOneText = (script one other : List ℕ) → ReadsNothing script → IsScriptText script one → IsScriptText script other → one ≡ other

-- with a compiler that makes the same words of an expression each time, each script has one text
abbrev pub HasOneTextBy : Type 0
HasOneTextBy =
    (compiled : Tree → List ℕ) (script one other : List ℕ) →
    IsScriptTextBy (by_function compiled) script one → IsScriptTextBy (by_function compiled) script other → one ≡ other
