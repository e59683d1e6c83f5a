-- What is read back is the same of the operator's configuration and of the text's.
use Rattle.std.proofs.Common.{◌≡◌, ◌∙◌, Bool, Err, List, None, Ok, Option, Result, Some, ap, cond, false, length, nat_le, refl, slice_get, sym, true, ℕ}
use Rattle.std.specs.Option.{option_map}
use Rattle.std.proofs.lemmas.List.{length-map}
use Rattle.std.proofs.lemmas.Option.{slice_get-map}
use Rattle.bpf_machine.specs.Meaning.{ending_of}
use Rattle.bpf_machine.specs.declared.TheConstants.{MAX_PACKET}
use Rattle.config_image.specs.Image.{Group}
use Rattle.hex.specs.Hex.{decode_of}
use Rattle.hex.specs.declared.error.FromHexError.{FromHexError}
use Rattle.member_group.specs.Group.{GroupOf, group_of, member_of}
use Rattle.member_group.specs.declared.member.Member.{Member}
use Rattle.ipv4_fields.specs.declared.endpoint.Endpoint.{Endpoint}
use Rattle.member_group.specs.declared.refusal.Refusal.{Refusal}
use Rattle.member_group.specs.declared.refusal.Refusal.TheVariants.{NoGroup, NoMember, NoProgram}
use Rattle.control_line.specs.declared.reason.Reason.TheVariants.{BadForm, Command, PacketTooLong}
use Rattle.read_section.specs.Operator.{OperatorValue}
use Rattle.control_line.specs.Agrees.{Agrees, TextConfig}
use Rattle.control_line.specs.Answer.{Does}
use Rattle.control_line.specs.Reading.{Reading, count_of, filter_words, group_answer, group_at, judged_answer, member_answer, member_at, or_refused, packet_answer, reading_answer, selector_words, value_by_words, verdict_on, window, words_answer}
use Rattle.control_line.specs.declared.reply.LineAnswer.{LineAnswer}
use Rattle.control_line.specs.declared.reply.LineAnswer.TheVariants.{GroupRead, MemberRead, PacketJudged, PacketMalformed, Refused, WordsRead}
use Rattle.member_group.proofs.OverLemmas.{group-over, member-over}
use Rattle.member_group.specs.Over.{config_over, group_over, member_over}
use Rattle.packet_verdict.proofs.OverLemmas.{verdict-over}
use Rattle.packet_verdict.specs.Malformed.{malformation_of}
use Rattle.packet_verdict.specs.Verdict.{returned, verdict}
use Rattle.packet_verdict.specs.declared.malformed.Malformation.{Malformation}
use Rattle.packet_verdict.specs.declared.verdict.Verdict.{Verdict}

-- programs of two kinds that have the same words
module _ {P Q : Type 0} (over : P → Q) (words_of : Q → List ℕ) (others_of : P → List ℕ) (same : (program : P) → words_of (over program) ≡ others_of program) (version : ℕ) where
  count-over : (program : Option P) → count_of words_of (option_map over program) ≡ count_of others_of program
  count-over None = refl
  count-over (Some program) = ap length (same program)

  program-over : (place : ℕ) (program : Option P) → or_refused NoProgram (words_answer words_of version place) (option_map over program) ≡ or_refused NoProgram (words_answer others_of version place) program
  program-over place None = refl
  program-over place (Some program) = ap (λ words. WordsRead version place (length words) (window words place)) (same program)

  group_answer-over : (index groups : ℕ) (found : Option (GroupOf P)) → or_refused NoGroup (group_answer words_of version index groups) (option_map (group_over over) found) ≡ or_refused NoGroup (group_answer others_of version index groups) found
  group_answer-over index groups None = refl
  group_answer-over index groups (Some group) =
      ap (λ n. GroupRead version index groups group.key n (count_of words_of (option_map over group.selector))) (length-map group.members (member_over over))
      ∙ ap (GroupRead version index groups group.key (length group.members)) (count-over group.selector)

  member_answer-over : (index members : ℕ) (found : Option (Member P)) → or_refused NoMember (member_answer words_of version index members) (option_map (member_over over) found) ≡ or_refused NoMember (member_answer others_of version index members) found
  member_answer-over index members None = refl
  member_answer-over index members (Some member) =
      ap (λ n. MemberRead version index members member.id member.to n member.locked) (count-over member.filter)

  filter-over : (place : ℕ) (found : Option (Member P))
      → or_refused NoMember (λ member. or_refused NoProgram (words_answer words_of version place) member.filter) (option_map (member_over over) found)
      ≡ or_refused NoMember (λ member. or_refused NoProgram (words_answer others_of version place) member.filter) found
  filter-over place None = refl
  filter-over place (Some member) = program-over place member.filter

  in_member : (index : ℕ) (found : Option (GroupOf P))
      → or_refused NoGroup (λ group. or_refused NoMember (member_answer words_of version index (length group.members)) (slice_get group.members index)) (option_map (group_over over) found)
      ≡ or_refused NoGroup (λ group. or_refused NoMember (member_answer others_of version index (length group.members)) (slice_get group.members index)) found
  in_member index None = refl
  in_member index (Some group) =
      ap (λ n. or_refused NoMember (member_answer words_of version index n) (slice_get (group_over over group).members index)) (length-map group.members (member_over over))
      ∙ ap (or_refused NoMember (member_answer words_of version index (length group.members))) (slice_get-map (member_over over) group.members index)
      ∙ member_answer-over index (length group.members) (slice_get group.members index)

  in_selector : (place : ℕ) (found : Option (GroupOf P))
      → or_refused NoGroup (λ group. or_refused NoProgram (words_answer words_of version place) group.selector) (option_map (group_over over) found)
      ≡ or_refused NoGroup (λ group. or_refused NoProgram (words_answer others_of version place) group.selector) found
  in_selector place None = refl
  in_selector place (Some group) = program-over place group.selector

  in_filter : (id place : ℕ) (found : Option (GroupOf P))
      → or_refused NoGroup (λ group. or_refused NoMember (λ member. or_refused NoProgram (words_answer words_of version place) member.filter) (member_of id group)) (option_map (group_over over) found)
      ≡ or_refused NoGroup (λ group. or_refused NoMember (λ member. or_refused NoProgram (words_answer others_of version place) member.filter) (member_of id group)) found
  in_filter id place None = refl
  in_filter id place (Some group) =
      ap (or_refused NoMember (λ member. or_refused NoProgram (words_answer words_of version place) member.filter)) (member-over over id group)
      ∙ filter-over place (member_of id group)

  packet-over : (config : List (GroupOf P)) (decoded : Result (List ℕ) FromHexError) → packet_answer words_of version (config_over over config) decoded ≡ packet_answer others_of version config decoded
  packet-over config (Err fault) = refl
  packet-over config (Ok packet) =
      ap (λ (judged : Verdict). cond (nat_le (length packet) MAX_PACKET) (judged_answer version (malformation_of packet) judged) (Refused PacketTooLong))
      (verdict-over over (value_by_words words_of) (value_by_words others_of) packet (λ program. ap (λ words. returned (ending_of words packet)) (same program)) config)

  reading-over : (config : List (GroupOf P)) (reading : Reading) → reading_answer words_of version (config_over over config) reading ≡ reading_answer others_of version config reading
  reading-over config (group_at index) =
      ap (λ n. or_refused NoGroup (group_answer words_of version index n) (slice_get (config_over over config) index)) (length-map config (group_over over))
      ∙ ap (or_refused NoGroup (group_answer words_of version index (length config))) (slice_get-map (group_over over) config index)
      ∙ group_answer-over index (length config) (slice_get config index)
  reading-over config (member_at key index) =
      ap (or_refused NoGroup (λ group. or_refused NoMember (member_answer words_of version index (length group.members)) (slice_get group.members index))) (group-over over key config)
      ∙ in_member index (group_of key config)
  reading-over config (selector_words key place) =
      ap (or_refused NoGroup (λ group. or_refused NoProgram (words_answer words_of version place) group.selector)) (group-over over key config)
      ∙ in_selector place (group_of key config)
  reading-over config (filter_words key id place) =
      ap (or_refused NoGroup (λ group. or_refused NoMember (λ member. or_refused NoProgram (words_answer words_of version place) member.filter) (member_of id group))) (group-over over key config)
      ∙ in_filter id place (group_of key config)
  reading-over config (verdict_on digits) = packet-over config (decode_of digits)

pub read_alike : (config : TextConfig) (real : List Group) → Agrees config real → (version : ℕ) (reading : Reading)
    → reading_answer (λ program. program.words) version real reading ≡ reading_answer (λ program. program.words) version config reading
read_alike config real (pairs, text_is, real_is) version reading =
    ap (λ c. reading_answer (λ program. program.words) version c reading) real_is
    ∙ reading-over (λ both. both.program) (λ program. program.words) (λ both. both.loaded.words) (λ both. both.words) version pairs reading
    ∙ sym (reading-over (λ both. both.loaded) (λ program. program.words) (λ both. both.loaded.words) (λ both. refl) version pairs reading)
    ∙ ap (λ c. reading_answer (λ program. program.words) version c reading) (sym text_is)

-- ---- each answer to a line that reads

module _ {P : Type 0} (words_of : P → List ℕ) (IsSo : LineAnswer → Type 0) (refused : (refusal : Refusal) → IsSo (Refused (Command refusal)))
    (group_read : (version index groups : ℕ) (key : Endpoint) (members selector : ℕ) → IsSo (GroupRead version index groups key members selector))
    (member_read : (version index members id : ℕ) (to : Endpoint) (filter : ℕ) (locked : Bool) → IsSo (MemberRead version index members id to filter locked))
    (words_read : (version place count : ℕ) (words : List ℕ) → IsSo (WordsRead version place count words)) (bad_form : IsSo (Refused BadForm)) (too_long : IsSo (Refused PacketTooLong))
    (judged : (version : ℕ) (verdict : Verdict) → IsSo (PacketJudged version verdict)) (malformed : (version : ℕ) (why : Malformation) → IsSo (PacketMalformed version why)) (version : ℕ) where
  each_found : {A : Type 0} (refusal : Refusal) (answer : A → LineAnswer) → ((found : A) → IsSo (answer found)) → (found : Option A) → IsSo (or_refused refusal answer found)
  each_found refusal answer each None = refused refusal
  each_found refusal answer each (Some found) = each found

  each_program : (place : ℕ) (program : Option P) → IsSo (or_refused NoProgram (words_answer words_of version place) program)
  each_program place program = each_found NoProgram (words_answer words_of version place) (λ p. words_read version place (length (words_of p)) (window (words_of p) place)) program

  each_judged : (why : Option Malformation) (verdict : Verdict) → IsSo (judged_answer version why verdict)
  each_judged None verdict = judged version verdict
  each_judged (Some why) verdict = malformed version why

  each_length : (test : Bool) (answer : LineAnswer) → IsSo answer → IsSo (cond test answer (Refused PacketTooLong))
  each_length true answer so = so
  each_length false answer so = too_long

  each_packet : (config : List (GroupOf P)) (decoded : Result (List ℕ) FromHexError) → IsSo (packet_answer words_of version config decoded)
  each_packet config (Err fault) = bad_form
  each_packet config (Ok packet) =
      each_length (nat_le (length packet) MAX_PACKET) (judged_answer version (malformation_of packet) (verdict (value_by_words words_of) config packet))
      (each_judged (malformation_of packet) (verdict (value_by_words words_of) config packet))

  pub each_reading : (config : List (GroupOf P)) (reading : Reading) → IsSo (reading_answer words_of version config reading)
  each_reading config (group_at index) =
      each_found NoGroup (group_answer words_of version index (length config))
      (λ group. group_read version index (length config) group.key (length group.members) (count_of words_of group.selector)) (slice_get config index)
  each_reading config (member_at key index) =
      each_found NoGroup (λ group. or_refused NoMember (member_answer words_of version index (length group.members)) (slice_get group.members index))
      (λ group. each_found NoMember (member_answer words_of version index (length group.members))
      (λ member. member_read version index (length group.members) member.id member.to (count_of words_of member.filter) member.locked) (slice_get group.members index))
      (group_of key config)
  each_reading config (selector_words key place) =
      each_found NoGroup (λ group. or_refused NoProgram (words_answer words_of version place) group.selector) (λ group. each_program place group.selector) (group_of key config)
  each_reading config (filter_words key id place) =
      each_found NoGroup (λ group. or_refused NoMember (λ member. or_refused NoProgram (words_answer words_of version place) member.filter) (member_of id group))
      (λ group. each_found NoMember (λ member. or_refused NoProgram (words_answer words_of version place) member.filter) (λ member. each_program place member.filter) (member_of id group))
      (group_of key config)
  each_reading config (verdict_on digits) = each_packet config (decode_of digits)

-- it does nothing
pub does_nothing_read : {P : Type 0} (words_of : P → List ℕ) (version : ℕ) (config : List (GroupOf P)) (reading : Reading) (operator : OperatorValue) → Does (reading_answer words_of version config reading) operator operator
does_nothing_read words_of version config reading operator =
    each_reading words_of (λ answer. Does answer operator operator) (λ refusal. refl) (λ version' index groups key members selector. refl) (λ version' index members id to filter locked. refl)
    (λ version' place count words. refl) refl refl (λ version' verdict. refl) (λ version' why. refl) version config reading
