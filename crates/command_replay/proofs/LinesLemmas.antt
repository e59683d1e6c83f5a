-- The lines of a script's text are the replies to the script's requests: no reply has an LF.
use Rattle.std.proofs.Common.{◌+◌, ◌-◌, ◌≡◌, ◌≢◌, ◌∙◌, ◌/◌, ◌%◌, ◌∷◌, ◌++◌, All, Bool, List, None, Option, Some, [], ap, append-nil, append_assoc, arith, codes, decimal, false, if◌then◌else◌, inl, nat_lt, refl, subst, suc, sym, take, true, zero, ℕ}
use Rattle.std.proofs.lemmas.List.Concat.{flat_map-append}
use Rattle.std.proofs.lemmas.List.Elements.{All-nil, All-push}
use Rattle.std.specs.Char.{digit_char}
use Rattle.std.specs.Fmt.{digits}
use Rattle.std.specs.List.{flat_map}
use Rattle.bpf_formats.specs.Hex.{hex_digits}
use Rattle.ipv4_fields.specs.Cut.{Lacks}
use Rattle.ipv4_fields.proofs.TextLemmas.{lacks-append, lacks-cons, lacks-decimal, lacks-endpoint, lacks-test}
use Rattle.control.specs.Endpoint.{endpoint_text}
use Rattle.fault_code.specs.Code.{name_text, place_text}
use Rattle.control.specs.Reason.{reason_code, refusal_text}
use Rattle.control.specs.Reply.{flag, judged_text, malformation_text, reply_text, spaced_word, verdict_text}
use Rattle.control.specs.Script.{AreAnswered, IsRequest, RepliesTo, Standing, at_start, no_request, of_nothing, of_requests, one_more, text_value, to_control, to_long_packet, to_packet}
use Rattle.dispatch.specs.Verdict.{verdict}
use Rattle.control_line.specs.declared.reason.Reason.{Reason}
use Rattle.control_line.specs.declared.reason.Reason.TheVariants.{PacketTooLong}
use Rattle.control_line.specs.declared.reply.LineAnswer.{LineAnswer}
use Rattle.control_line.specs.declared.reply.LineAnswer.TheVariants.{GroupRead, LineRefused, MemberRead, PacketJudged, PacketMalformed, Published, Refused, Shown, Swept, WordsRead}
use Rattle.packet_verdict.specs.declared.malformed.Malformation.{Malformation}
use Rattle.packet_verdict.specs.declared.malformed.Malformation.TheVariants as broken
use Rattle.packet_verdict.specs.declared.verdict.Verdict.{Verdict}
use Rattle.packet_verdict.specs.declared.verdict.Verdict.TheVariants.{Deliver, Dropped, Malformed, NoGroup, NoMembers}
use Rattle.control_summary.specs.Summary.{lines_of}
use Rattle.control_summary.proofs.LineLemmas.{first_line, no_lines}
use Rattle.command_replay.specs.Lines.{AreRepliesInTurn, LinesAreReplies, ended, no_reply, none_of, one_reply_more, some_of}
use Rattle.command_replay.proofs.KindLemmas.{above-reason, lacks-above}

-- ---- no LF in a reply

lacks-number : (n : ℕ) → Lacks 10 (decimal n)
lacks-number n = lacks-decimal 10 n (inl (omega arith))

both : (one other : List ℕ) → Lacks 10 one → Lacks 10 other → Lacks 10 (one ++ other)
both one other = lacks-append 10 one other

named : (word : List ℕ) (n : ℕ) → Lacks 10 word → Lacks 10 (word ++ decimal n)
named word n lacks = both word (decimal n) lacks (lacks-number n)

blank : Lacks 10 (codes " ")
blank = lacks-test 10 (codes " ") refl

refused : (name number : List ℕ) → Lacks 10 name → Lacks 10 number → Lacks 10 (codes "refused " ++ name ++ number)
refused name number first last = both (codes "refused ") (name ++ number) (lacks-test 10 (codes "refused ") refl) (both name number first last)

lacks-refusal : (reason : Reason) → Lacks 10 (refusal_text reason)
lacks-refusal reason =
    refused (name_text (reason_code reason)) (place_text (reason_code reason).place) (lacks-above 10 (name_text (reason_code reason)) (omega arith) (above-reason reason))
    (by_place (reason_code reason).place)
  where
    by_place : (place : Option ℕ) → Lacks 10 (place_text place)
    by_place None = λ k inside. absurd (omega arith)
    by_place (Some n) = named (codes " ") n blank

-- a text, and a word behind a label
labelled : (text label word : List ℕ) → Lacks 10 text → Lacks 10 label → Lacks 10 word → Lacks 10 (text ++ label ++ word)
labelled text label word first second last = both (text ++ label) word (both text label first second) last

spaced : (text word : List ℕ) → Lacks 10 text → Lacks 10 word → Lacks 10 (text ++ codes " " ++ word)
spaced text word first last = labelled text (codes " ") word first blank last

shown : (version groups members charge : List ℕ) → Lacks 10 version → Lacks 10 groups → Lacks 10 members → Lacks 10 charge
    → Lacks 10 (codes "version " ++ version ++ codes " groups " ++ groups ++ codes " members " ++ members ++ codes " charge " ++ charge)
shown version groups members charge first second third last =
    let begun = both (codes "version ") version (lacks-test 10 (codes "version ") refl) first in
    let with_groups = labelled (codes "version " ++ version) (codes " groups ") groups begun (lacks-test 10 (codes " groups ") refl) second in
    let text : List ℕ = codes "version " ++ version ++ codes " groups " ++ groups in
    let with_members = labelled text (codes " members ") members with_groups (lacks-test 10 (codes " members ") refl) third in
    labelled (text ++ codes " members " ++ members) (codes " charge ") charge with_members (lacks-test 10 (codes " charge ") refl) last

swept : (first count : List ℕ) → Lacks 10 first → Lacks 10 count → Lacks 10 (codes "reclaimed " ++ first ++ codes " " ++ count)
swept first count one other = spaced (codes "reclaimed " ++ first) count (both (codes "reclaimed ") first (lacks-test 10 (codes "reclaimed ") refl) one) other

-- a text with words behind a label
with_number : (text label : List ℕ) (n : ℕ) → Lacks 10 text → Lacks 10 label → Lacks 10 (text ++ label ++ decimal n)
with_number text label n first second = labelled text label (decimal n) first second (lacks-number n)

lacks-hex : (count n : ℕ) → Lacks 10 (hex_digits count n)
unfolding hex_digits
lacks-hex zero n = λ k inside. absurd (omega arith)
lacks-hex (suc count) n = both (hex_digits count (n / 16)) (digit_char (n % 16) ∷ []) (lacks-hex count (n / 16)) (lacks-cons 10 (digit_char (n % 16)) [] (apart (nat_lt (n % 16) 10)) (λ k inside. absurd (omega arith)))
  where
    apart : (small : Bool) → (if small then 48 + n % 16 else 87 + n % 16) ≢ 10
    apart true is = absurd (omega (arith, is))
    apart false is = absurd (omega (arith, is))

lacks-program : (program : List ℕ) → Lacks 10 (flat_map spaced_word program)
lacks-program [] = λ k inside. absurd (omega arith)
lacks-program (word ∷ program) = both (spaced_word word) (flat_map spaced_word program) (both (codes " ") (hex_digits 16 word) blank (lacks-hex 16 word)) (lacks-program program)

-- a name, the group's key and the member's number
with_member : (name key id : List ℕ) → Lacks 10 name → Lacks 10 key → Lacks 10 id → Lacks 10 (name ++ key ++ codes " " ++ id)
with_member name key id first second last = spaced (name ++ key) id (both name key first second) last

delivered : (key id receiver bytes : List ℕ) → Lacks 10 key → Lacks 10 id → Lacks 10 receiver → Lacks 10 bytes
    → Lacks 10 (codes "deliver " ++ key ++ codes " " ++ id ++ codes " " ++ receiver ++ codes " " ++ bytes)
delivered key id receiver bytes first second third last =
    let text : List ℕ = codes "deliver " ++ key ++ codes " " ++ id in
    let member = with_member (codes "deliver ") key id (lacks-test 10 (codes "deliver ") refl) first second in
    spaced (text ++ codes " " ++ receiver) bytes (spaced text receiver member third) last

lacks-verdict : (judged : Verdict) → Lacks 10 (verdict_text judged)
lacks-verdict Malformed = lacks-test 10 (codes "malformed") refl
lacks-verdict NoGroup = lacks-test 10 (codes "nogroup") refl
lacks-verdict NoMembers = lacks-test 10 (codes "nomembers") refl
lacks-verdict (Dropped key id) =
    with_member (codes "dropped ") (endpoint_text key) (decimal id) (lacks-test 10 (codes "dropped ") refl) (lacks-endpoint 10 key (omega arith)) (lacks-number id)
lacks-verdict (Deliver key id to bytes) =
    delivered (endpoint_text key) (decimal id) (endpoint_text to) (decimal bytes) (lacks-endpoint 10 key (omega arith)) (lacks-number id) (lacks-endpoint 10 to (omega arith)) (lacks-number bytes)

judged : (version told : List ℕ) → Lacks 10 version → Lacks 10 told → Lacks 10 (codes "version " ++ version ++ codes " " ++ told)
judged version told first last = spaced (codes "version " ++ version) told (both (codes "version ") version (lacks-test 10 (codes "version ") refl) first) last

lacks-judged : (version : ℕ) (told : Verdict) → Lacks 10 (judged_text version told)
lacks-judged version told = judged (decimal version) (verdict_text told) (lacks-number version) (lacks-verdict told)

lacks-malformation : (why : Malformation) → Lacks 10 (malformation_text why)
lacks-malformation broken.Short = lacks-test 10 (codes "short") refl
lacks-malformation broken.Version = lacks-test 10 (codes "version") refl
lacks-malformation broken.Header = lacks-test 10 (codes "header") refl
lacks-malformation broken.Length = lacks-test 10 (codes "length") refl
lacks-malformation broken.Protocol = lacks-test 10 (codes "protocol") refl
lacks-malformation broken.Fragment = lacks-test 10 (codes "fragment") refl
lacks-malformation broken.UdpLength = lacks-test 10 (codes "udplength") refl

lacks-answer : (answer : LineAnswer) → Lacks 10 (reply_text answer)
lacks-answer (Refused reason) = lacks-refusal reason
lacks-answer (LineRefused number reason) = with_number (refusal_text reason) (codes " line ") number (lacks-refusal reason) (lacks-test 10 (codes " line ") refl)
lacks-answer (Published version) = named (codes "ok version ") version (lacks-test 10 (codes "ok version ") refl)
lacks-answer (Shown version groups members charge) =
    shown (decimal version) (decimal groups) (decimal members) (decimal charge) (lacks-number version) (lacks-number groups) (lacks-number members) (lacks-number charge)
lacks-answer (GroupRead version index groups key members selector) =
    let begun : List ℕ = codes "version " ++ decimal version in
    let with_index : List ℕ = begun ++ codes " group " ++ decimal index in
    let with_groups : List ℕ = with_index ++ codes " of " ++ decimal groups in
    let with_key : List ℕ = with_groups ++ codes " " ++ endpoint_text key in
    let with_members : List ℕ = with_key ++ codes " members " ++ decimal members in
    let lacks_index = with_number begun (codes " group ") index (named (codes "version ") version (lacks-test 10 (codes "version ") refl)) (lacks-test 10 (codes " group ") refl) in
    let lacks_groups = with_number with_index (codes " of ") groups lacks_index (lacks-test 10 (codes " of ") refl) in
    let lacks_key = spaced with_groups (endpoint_text key) lacks_groups (lacks-endpoint 10 key (omega arith)) in
    let lacks_members = with_number with_key (codes " members ") members lacks_key (lacks-test 10 (codes " members ") refl) in
    with_number with_members (codes " selector ") selector lacks_members (lacks-test 10 (codes " selector ") refl)
lacks-answer (MemberRead version index members id to filter locked) =
    let begun : List ℕ = codes "version " ++ decimal version in
    let with_index : List ℕ = begun ++ codes " member " ++ decimal index in
    let with_members : List ℕ = with_index ++ codes " of " ++ decimal members in
    let with_id : List ℕ = with_members ++ codes " " ++ decimal id in
    let with_to : List ℕ = with_id ++ codes " " ++ endpoint_text to in
    let with_filter : List ℕ = with_to ++ codes " filter " ++ decimal filter in
    let lacks_index = with_number begun (codes " member ") index (named (codes "version ") version (lacks-test 10 (codes "version ") refl)) (lacks-test 10 (codes " member ") refl) in
    let lacks_members = with_number with_index (codes " of ") members lacks_index (lacks-test 10 (codes " of ") refl) in
    let lacks_id = with_number with_members (codes " ") id lacks_members blank in
    let lacks_to = spaced with_id (endpoint_text to) lacks_id (lacks-endpoint 10 to (omega arith)) in
    let lacks_filter = with_number with_to (codes " filter ") filter lacks_to (lacks-test 10 (codes " filter ") refl) in
    with_number with_filter (codes " locked ") (flag locked) lacks_filter (lacks-test 10 (codes " locked ") refl)
lacks-answer (WordsRead version place count words) =
    let begun : List ℕ = codes "version " ++ decimal version in
    let with_place : List ℕ = begun ++ codes " words " ++ decimal place in
    let with_count : List ℕ = with_place ++ codes " of " ++ decimal count in
    let lacks_place = with_number begun (codes " words ") place (named (codes "version ") version (lacks-test 10 (codes "version ") refl)) (lacks-test 10 (codes " words ") refl) in
    let lacks_count = with_number with_place (codes " of ") count lacks_place (lacks-test 10 (codes " of ") refl) in
    both with_count (flat_map spaced_word (take (count - place) words)) lacks_count (lacks-program (take (count - place) words))
lacks-answer (PacketJudged version told) = lacks-judged version told
lacks-answer (PacketMalformed version why) =
    let begun : List ℕ = codes "version " ++ decimal version in
    let lacks_name = both begun (codes " malformed ") (named (codes "version ") version (lacks-test 10 (codes "version ") refl)) (lacks-test 10 (codes " malformed ") refl) in
    both (begun ++ codes " malformed ") (malformation_text why) lacks_name (lacks-malformation why)
lacks-answer (Swept reclaimed) =
    swept (decimal reclaimed.first) (decimal reclaimed.count) (lacks-number reclaimed.first) (lacks-number reclaimed.count)

lacks-reply : (now : Standing) (line reply : List ℕ) (next : Standing) → RepliesTo now line reply next → Lacks 10 reply
lacks-reply now line _ _ (to_control answer next no_packet answers comes) = lacks-answer answer
lacks-reply now line _ _ (to_packet digits packet within is spells) = lacks-judged now.version (verdict text_value now.config packet)
lacks-reply now line _ _ (to_long_packet digits within is spells) = lacks-refusal PacketTooLong

-- ---- requests and their replies

ended_more : (requests : List (List ℕ)) (request : List ℕ) → ended (requests ++ request ∷ []) ≡ ended requests ++ (request ++ 10 ∷ [])
ended_more requests request =
    flat_map-append (λ (l : List ℕ). l ++ 10 ∷ []) requests (request ∷ []) ∙ ap (λ (t : List ℕ). ended requests ++ t) (append-nil (request ++ 10 ∷ []))

-- a text whose lines are those of it, whatever stands behind
abbrev IsOfLines : List ℕ → Type 0
IsOfLines text = (rest : List ℕ) → lines_of (text ++ rest) ≡ lines_of text ++ lines_of rest

one_line : (text reply : List ℕ) → IsOfLines text → Lacks 10 reply → lines_of (text ++ (reply ++ 10 ∷ [])) ≡ lines_of text ++ reply ∷ []
one_line text reply whole lacks =
    whole (reply ++ 10 ∷ []) ∙ ap (λ (lines : List (List ℕ)). lines_of text ++ lines) (first_line reply [] lacks ∙ ap (λ (lines : List (List ℕ)). reply ∷ lines) no_lines)

more_lines : (text reply : List ℕ) → IsOfLines text → Lacks 10 reply → IsOfLines (text ++ (reply ++ 10 ∷ []))
more_lines text reply whole lacks rest =
    ap lines_of (append_assoc text (reply ++ 10 ∷ []) rest ∙ ap (λ (t : List ℕ). text ++ t) (append_assoc reply (10 ∷ []) rest))
    ∙ (whole (reply ++ 10 ∷ rest)
    ∙ (ap (λ (lines : List (List ℕ)). lines_of text ++ lines) (first_line reply rest lacks)
    ∙ (sym (append_assoc (lines_of text) (reply ∷ []) (lines_of rest)) ∙ ap (λ (lines : List (List ℕ)). lines ++ lines_of rest) (sym (one_line text reply whole lacks)))))

record Cut (script text : List ℕ) (last : Standing) : Type 0 where
  requests : List (List ℕ)
  is : ended requests ≡ script
  each : All IsRequest requests
  in_turn : AreRepliesInTurn requests (lines_of text) last
  whole : IsOfLines text

cut : (script text : List ℕ) (last : Standing) → AreAnswered script text last → Cut script text last
cut _ _ _ no_request = record {
  requests = [];
  is = refl;
  each = All-nil IsRequest;
  in_turn = subst (λ (lines : List (List ℕ)). AreRepliesInTurn [] lines at_start) (sym no_lines) no_reply;
  whole = λ rest. ap (λ (lines : List (List ℕ)). lines ++ lines_of rest) (sym no_lines);
}
cut _ _ _ (one_more script text request reply now next before is replies) =
    let cut = cut script text now before in
    let lacks = lacks-reply now request reply next replies in
    record {
      requests = cut.requests ++ request ∷ [];
      is = ended_more cut.requests request ∙ ap (λ (t : List ℕ). t ++ (request ++ 10 ∷ [])) cut.is;
      each = All-push IsRequest cut.requests request cut.each is;
      in_turn = subst (λ (found : List (List ℕ)). AreRepliesInTurn (cut.requests ++ request ∷ []) found next) (sym (one_line text reply cut.whole lacks))
          (one_reply_more cut.requests (lines_of text) request reply now next cut.in_turn replies);
      whole = more_lines text reply cut.whole lacks;
    }

pub lines_are_replies : LinesAreReplies
lines_are_replies script _ (of_nothing none) =
    ([], at_start, none_of none, subst (λ (lines : List (List ℕ)). AreRepliesInTurn [] lines at_start) (sym no_lines) no_reply)
lines_are_replies script _ (of_requests requests text request reply now last answered begins whole replies) =
    let cut = cut requests text now answered in
    let lacks = lacks-reply now request reply last replies in (
      cut.requests ++ request ∷ [],
      last,
      some_of cut.requests request cut.each begins (whole ∙ (ap (λ (t : List ℕ). t ++ (request ++ 10 ∷ [])) (sym cut.is) ∙ sym (ended_more cut.requests request))),
      subst (λ (found : List (List ℕ)). AreRepliesInTurn (cut.requests ++ request ∷ []) found last) (sym (one_line text reply cut.whole lacks))
          (one_reply_more cut.requests (lines_of text) request reply now last cut.in_turn replies),
    )
