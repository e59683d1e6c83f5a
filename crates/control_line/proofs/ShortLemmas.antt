-- The numbers of what is read are small enough for a reply.
use Rattle.std.proofs.Common.{◌≡◌, ◌∙◌, ◌^◌, ◌<◌, Bool, Err, List, None, Ok, Option, Result, Some, arith, cond, false, length, nat_le, refl, slice_get, sym, true, ℕ}
use Rattle.std.specs.Prelude.{IfSome}
use Rattle.std.proofs.lemmas.List.Folds.{find_at}
use Rattle.bpf_machine.specs.declared.TheConstants.{MAX_PACKET}
use Rattle.bpf_verify.specs.Program.{IsProgram, ProgramValue}
use Rattle.hex.specs.Hex.{decode_of}
use Rattle.hex.specs.declared.error.FromHexError.{FromHexError}
use Rattle.config_image.specs.Image.{Group}
use Rattle.member_group.specs.Group.{IsConfig, IsGroup, IsMember, group_of, has_id, has_key, member_of}
use Rattle.member_group.specs.declared.member.Member.{Member}
use Rattle.member_group.specs.declared.refusal.Refusal.{Refusal}
use Rattle.member_group.specs.declared.refusal.Refusal.TheVariants.{NoGroup, NoMember, NoProgram}
use Rattle.control_line.specs.Reading.{Reading, count_of, filter_words, group_answer, group_at, member_answer, judged_answer, member_at, or_refused, packet_answer, reading_answer, selector_words, value_by_words, verdict_on, words_answer}
use Rattle.control_line.specs.body.Making.{IsShort}
use Rattle.control_line.specs.declared.reason.Reason.TheVariants.{PacketTooLong}
use Rattle.control_line.specs.declared.reply.LineAnswer.{LineAnswer}
use Rattle.control_line.specs.declared.reply.LineAnswer.TheVariants.{Refused}
use Rattle.packet_verdict.proofs.FindLemmas.{all_at}
use Rattle.packet_verdict.specs.Malformed.{malformation_of}
use Rattle.packet_verdict.specs.Verdict.{verdict}
use Rattle.packet_verdict.specs.declared.malformed.Malformation.{Malformation}
use Rattle.packet_verdict.specs.declared.verdict.Verdict.{Verdict}

short_found : {A : Type 0} (refusal : Refusal) (answer : A → LineAnswer) (found : Option A) → ((one : A) → found ≡ Some one → IsShort (answer one)) → IsShort (or_refused refusal answer found)
short_found refusal answer None each = tt
short_found refusal answer (Some one) each = each one refl

abbrev words_of : ProgramValue → List ℕ
words_of program = program.words

program_count : (program : ProgramValue) → IsProgram program → length program.words < 10 ^ 4
program_count program is = let short = is.accepted.not_too_long in omega arith

count_short : (program : Option ProgramValue) → IfSome program IsProgram → count_of words_of program < 10 ^ 4
count_short None is = omega arith
count_short (Some program) is = program_count program is

short_judged : (version : ℕ) (why : Option Malformation) (judged : Verdict) → IsShort (judged_answer version why judged)
short_judged version None judged = tt
short_judged version (Some why) judged = tt

short_either : (test : Bool) (answer : LineAnswer) → IsShort answer → IsShort (cond test answer (Refused PacketTooLong))
short_either true answer short = short
short_either false answer short = tt

short_packet : (version : ℕ) (config : List Group) (decoded : Result (List ℕ) FromHexError) → IsShort (packet_answer words_of version config decoded)
short_packet version config (Err fault) = tt
short_packet version config (Ok packet) =
    short_either (nat_le (length packet) MAX_PACKET) (judged_answer version (malformation_of packet) (verdict (value_by_words words_of) config packet))
    (short_judged version (malformation_of packet) (verdict (value_by_words words_of) config packet))

module _ (version : ℕ) (low : version < 10 ^ 15) where
  words_short : (place : ℕ) (program : Option ProgramValue) → IfSome program IsProgram → IsShort (or_refused NoProgram (words_answer words_of version place) program)
  words_short place None is = tt
  words_short place (Some program) is = (low, program_count program is)

  module _ (config : List Group) (is : IsConfig config) where
    groups_few : length config < 10 ^ 4
    groups_few = let few = is.limited in omega arith

    group_short : (index : ℕ) (group : Group) → IsGroup group → IsShort (group_answer words_of version index (length config) group)
    group_short index group of = let few = of.limited in (groups_few, omega arith, count_short group.selector of.selector)

    member_short : (index : ℕ) (group : Group) (member : Member ProgramValue) → IsGroup group → IsMember member → IsShort (member_answer words_of version index (length group.members) member)
    member_short index group member of there = let few = of.limited in (omega arith, count_short member.filter there.filter)

    group_there : (index : ℕ) (group : Group) → slice_get config index ≡ Some group → IsGroup group
    group_there index group at = all_at IsGroup config index group is.groups at

    group_found : (key : _) (group : Group) → group_of key config ≡ Some group → IsGroup group
    group_found key group found = group_there _ group (sym (find_at (has_key key) config) ∙ found)

    member_there : (group : Group) → IsGroup group → (index : ℕ) (member : Member ProgramValue) → slice_get group.members index ≡ Some member → IsMember member
    member_there group of index member at = all_at IsMember group.members index member of.members at

    pub is_short : (reading : Reading) → IsShort (reading_answer words_of version config reading)
    is_short (group_at index) = short_found NoGroup (group_answer words_of version index (length config)) (slice_get config index) (λ group at. group_short index group (group_there index group at))
    is_short (member_at key index) =
        short_found NoGroup (λ group. or_refused NoMember (member_answer words_of version index (length group.members)) (slice_get group.members index)) (group_of key config)
        (λ group found. short_found NoMember (member_answer words_of version index (length group.members)) (slice_get group.members index)
        (λ member at. member_short index group member (group_found key group found) (member_there group (group_found key group found) index member at)))
    is_short (selector_words key place) =
        short_found NoGroup (λ group. or_refused NoProgram (words_answer words_of version place) group.selector) (group_of key config)
        (λ group found. words_short place group.selector (group_found key group found).selector)
    is_short (filter_words key id place) =
        short_found NoGroup (λ group. or_refused NoMember (λ member. or_refused NoProgram (words_answer words_of version place) member.filter) (member_of id group)) (group_of key config)
        (λ group found. short_found NoMember (λ member. or_refused NoProgram (words_answer words_of version place) member.filter) (member_of id group)
        (λ member there. words_short place member.filter (member_there group (group_found key group found) _ member (sym (find_at (has_id id) group.members) ∙ there)).filter))
    is_short (verdict_on digits) = short_packet version config (decode_of digits)
