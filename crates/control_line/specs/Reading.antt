-- Lines that read the configuration back, and their answers (docs/COMMANDS.md, "Control lines").
use Rattle.std.specs.Prelude.{◌++◌, Err, List, None, Ok, Option, Result, Some, drop, if◌then◌else◌, length, nat_le, replicate, slice_get, take, ℕ}
use Rattle.bpf_machine.specs.Meaning.{ending_of}
use Rattle.bpf_machine.specs.declared.TheConstants.{MAX_PACKET}
use Rattle.hex.specs.Hex.{decode_of}
use Rattle.hex.specs.declared.error.FromHexError.{FromHexError}
use Rattle.ipv4_fields.specs.declared.endpoint.Endpoint.{Endpoint}
use Rattle.member_group.specs.Group.{GroupOf, group_of, member_of}
use Rattle.member_group.specs.declared.member.Member.{Member}
use Rattle.member_group.specs.declared.refusal.Refusal.{Refusal}
use Rattle.member_group.specs.declared.refusal.Refusal.TheVariants.{NoGroup, NoMember, NoProgram}
use Rattle.packet_verdict.specs.Malformed.{malformation_of}
use Rattle.packet_verdict.specs.Verdict.{returned, verdict}
use Rattle.packet_verdict.specs.declared.malformed.Malformation.{Malformation}
use Rattle.packet_verdict.specs.declared.verdict.Verdict.{Verdict}
use Rattle.control_line.specs.declared.reason.Reason.TheVariants.{BadForm, Command, PacketTooLong}
use Rattle.control_line.specs.declared.reply.TheConstants.{WINDOW}
use Rattle.control_line.specs.declared.reply.LineAnswer.{LineAnswer}
use Rattle.control_line.specs.declared.reply.LineAnswer.TheVariants.{GroupRead, MemberRead, PacketJudged, PacketMalformed, Refused, WordsRead}

-- a group by its place among the groups, a member by its index in a group, words of a program from a place on, or the verdict on the
-- packet that digits spell
pub data Reading : Type 0 where
  group_at : ℕ → Reading
  member_at : Endpoint → ℕ → Reading
  selector_words : Endpoint → ℕ → Reading
  filter_words : Endpoint → ℕ → ℕ → Reading
  verdict_on : List ℕ → Reading

-- the answer about what is there, or the refusal because it is not
abbrev pub or_refused : {A : Type 0} → Refusal → (A → LineAnswer) → Option A → LineAnswer
or_refused refusal answer None = Refused (Command refusal)
or_refused refusal answer (Some found) = answer found

-- five words from a place on; after the last word come zeros
abbrev pub window : List ℕ → ℕ → List ℕ
window words place = take WINDOW (drop place words ++ replicate WINDOW 0)

-- how many instructions a program has; none has 0
abbrev pub count_of : {P : Type 0} → (P → List ℕ) → Option P → ℕ
count_of words_of None = 0
count_of words_of (Some program) = length (words_of program)

-- the result of a program for a packet, by its words
abbrev pub value_by_words : {P : Type 0} → (P → List ℕ) → P → List ℕ → ℕ
value_by_words words_of program packet = returned (ending_of (words_of program) packet)

-- the verdict of a version on a packet, or why it is malformed
abbrev pub judged_answer : ℕ → Option Malformation → Verdict → LineAnswer
judged_answer version None judged = PacketJudged version judged
judged_answer version (Some why) judged = PacketMalformed version why

-- configurations over programs of any kind, with the words of each
module _ {P : Type 0} (words_of : P → List ℕ) (version : ℕ) where
  abbrev pub group_answer : ℕ → ℕ → GroupOf P → LineAnswer
  group_answer index groups group = GroupRead version index groups group.key (length group.members) (count_of words_of group.selector)

  abbrev pub member_answer : ℕ → ℕ → Member P → LineAnswer
  member_answer index members member = MemberRead version index members member.id member.to (count_of words_of member.filter) member.locked

  abbrev pub words_answer : ℕ → P → LineAnswer
  words_answer place program = WordsRead version place (length (words_of program)) (window (words_of program) place)

  -- the answer about the packet that digits were decoded to, if it is not too long
  abbrev pub packet_answer : List (GroupOf P) → Result (List ℕ) FromHexError → LineAnswer
  packet_answer config (Err fault) = Refused BadForm
  packet_answer config (Ok packet) =
      if nat_le (length packet) MAX_PACKET then judged_answer version (malformation_of packet) (verdict (value_by_words words_of) config packet)
      else Refused PacketTooLong

  -- the answer to a line that reads a configuration
  abbrev pub reading_answer : List (GroupOf P) → Reading → LineAnswer
  reading_answer config (group_at index) = or_refused NoGroup (group_answer index (length config)) (slice_get config index)
  reading_answer config (member_at key index) =
      or_refused NoGroup
      (λ group. or_refused NoMember (member_answer index (length group.members)) (slice_get group.members index))
      (group_of key config)
  reading_answer config (selector_words key place) =
      or_refused NoGroup (λ group. or_refused NoProgram (words_answer place) group.selector) (group_of key config)
  reading_answer config (filter_words key id place) =
      or_refused NoGroup
      (λ group. or_refused NoMember (λ member. or_refused NoProgram (words_answer place) member.filter) (member_of id group))
      (group_of key config)
  reading_answer config (verdict_on digits) = packet_answer config (decode_of digits)
