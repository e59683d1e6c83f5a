-- The kinds of the replies of a script.
use Rattle.std.proofs.Common.{◌-◌, ◌≡◌, ◌∙◌, ◌<◌, ◌∷◌, ◌++◌, Bool, List, None, Option, Some, [], ap, append-nil, append_assoc, arith, codes, decimal, inl, nat_lt, refl, take, true, ℕ}
use Rattle.std.proofs.lemmas.Bool.{and_parts, ltb-true}
use Rattle.std.specs.Char.{encode_utf8}
use Rattle.std.specs.Fmt.{digits}
use Rattle.std.specs.List.{flat_map, list_all}
use Rattle.std.specs.Option.{option_or}
use Rattle.ipv4_fields.specs.Cut.{Lacks}
use Rattle.ipv4_fields.proofs.TextLemmas.{lacks-cons, lacks-decimal, lacks-endpoint, lacks-test}
use Rattle.bpf_asm.specs.declared.fault.AsmFault.{AsmFault}
use Rattle.bpf_asm.specs.declared.fault.AsmFault.TheVariants as asm
use Rattle.bpf_verify.specs.declared.fault.Fault.{Fault}
use Rattle.bpf_verify.specs.declared.fault.Fault.TheVariants as verify
use Rattle.filter_parse.specs.declared.fault.ParseFault.{ParseFault}
use Rattle.filter_parse.specs.declared.fault.ParseFault.TheVariants as parse
use Rattle.filter_compile.specs.declared.fault.CompileFault.{CompileFault}
use Rattle.filter_compile.specs.declared.fault.CompileFault.TheVariants as compile
use Rattle.member_group.specs.declared.refusal.Refusal.{Refusal}
use Rattle.member_group.specs.declared.refusal.Refusal.TheVariants as refusal
use Rattle.retire.specs.declared.fault.PublishFault.{PublishFault}
use Rattle.retire.specs.declared.fault.PublishFault.TheVariants as publish
use Rattle.control.specs.Endpoint.{endpoint_text}
use Rattle.bpf_asm.specs.Code.{asm_code}
use Rattle.bpf_verify.specs.Code.{verify_code}
use Rattle.fault_code.specs.Code.{name_text, place_text}
use Rattle.filter_compile.specs.Code.{compile_code}
use Rattle.filter_parse.specs.Code.{parse_code}
use Rattle.member_group.specs.Code.{command_code}
use Rattle.retire.specs.Code.{publish_code}
use Rattle.control.specs.Reason.{reason_code}
use Rattle.control.specs.Reply.{flag, malformation_text, reply_text, spaced_word}
use Rattle.control_line.specs.declared.reason.Reason.{Reason}
use Rattle.control_line.specs.declared.reason.Reason.TheVariants.{BadForm, Command, LineTooLong, OtherVersion, PacketTooLong, Publishing, Text}
use Rattle.filter_program.specs.declared.fault.TextFault.TheVariants.{Assembly, Compiling, Expression, OutOfMemory, Words}
use Rattle.control_line.specs.declared.reply.LineAnswer.TheVariants.{GroupRead, MemberRead, PacketMalformed, Shown, Swept, WordsRead}
use Rattle.packet_verdict.specs.declared.verdict.Verdict.TheVariants.{Deliver, Dropped, Malformed, NoGroup, NoMembers}
use Rattle.control_summary.specs.Kind.{refusal_in, reply_kind}
use Rattle.control_summary.specs.Verdict.{verdict_at, verdict_in, words_of}
use Rattle.control_summary.proofs.WordLemmas.{cut_words, one_word}
use Rattle.command_replay.specs.Counted.{ChangesAreNotCounted, MalformationsAreCounted, ReadsAreNotCounted, RefusalsAreCounted, ShowsAreNotCounted, SweepsAreNotCounted, VerdictsAreCounted}

-- each byte is above the space
abbrev pub is_above_space : List ℕ → Bool
is_above_space text = list_all (λ b. nat_lt 32 b) text

pub lacks-above : (s : ℕ) (text : List ℕ) → s < 33 → is_above_space text ≡ true → Lacks s text
lacks-above s [] low all = λ k inside. absurd (omega arith)
lacks-above s (x ∷ text) low all =
    let both = and_parts (nat_lt 32 x) (list_all (λ b. nat_lt 32 b) text) all in
    let above = ltb-true 32 x both.0 in
    lacks-cons s x text (λ same. absurd (omega (arith, above, same))) (lacks-above s text low both.1)

lacks-number : (n : ℕ) → Lacks 32 (decimal n)
lacks-number n = lacks-decimal 32 n (inl (omega arith))

-- ---- the words of a text whose first ones are known

cut : (first rest : List ℕ) → Lacks 32 first → words_of (first ++ 32 ∷ rest) ≡ first ∷ words_of rest
cut first rest lacks = cut_words (first ++ 32 ∷ rest) first rest (record { lacks = lacks; whole = refl })

one : (word : List ℕ) → Lacks 32 word → words_of word ≡ word ∷ []
one word lacks = one_word word lacks

more : (word : List ℕ) (words others : List (List ℕ)) → words ≡ others → word ∷ words ≡ word ∷ others
more word words others same = ap (λ (ws : List (List ℕ)). word ∷ ws) same

kind_by_words : (text : List ℕ) (words : List (List ℕ)) → words_of text ≡ words → reply_kind text ≡ option_or (verdict_in words) (refusal_in words)
kind_by_words text words are = ap (λ (ws : List (List ℕ)). option_or (verdict_in ws) (refusal_in ws)) are

-- ---- verdicts

judged_words : (version : ℕ) (told : List ℕ) → words_of (codes "version " ++ decimal version ++ codes " " ++ told) ≡ codes "version" ∷ (decimal version ∷ words_of told)
judged_words version told =
    let regrouped : codes "version " ++ decimal version ++ codes " " ++ told ≡ codes "version" ++ 32 ∷ (decimal version ++ 32 ∷ told) = simp append_assoc in
    ap words_of regrouped ∙ (cut (codes "version") (decimal version ++ 32 ∷ told) (lacks-test 32 (codes "version") refl)
    ∙ more (codes "version") _ _ (cut (decimal version) told (lacks-number version)))

judged_kind : (version : ℕ) (told : List ℕ) (words : List (List ℕ)) (kind : List ℕ) → words_of told ≡ words → verdict_at words ≡ Some kind
    → reply_kind (codes "version " ++ decimal version ++ codes " " ++ told) ≡ Some kind
unfolding verdict_in
judged_kind version told words kind are is =
    kind_by_words (codes "version " ++ decimal version ++ codes " " ++ told) (codes "version" ∷ (decimal version ∷ words))
    (judged_words version told ∙ more (codes "version") _ _ (more (decimal version) _ _ are))
    ∙ ap (λ (v : Option (List ℕ)). option_or v (refusal_in (codes "version" ∷ (decimal version ∷ words)))) is

-- a name, and behind it the group's key and the member's number
module _ (name key : List ℕ) (lacks : Lacks 32 name) (lacks' : Lacks 32 key) (id : ℕ) where
  words_with_member : words_of (name ++ 32 ∷ (key ++ 32 ∷ decimal id)) ≡ name ∷ (key ∷ (decimal id ∷ []))
  words_with_member =
      cut name (key ++ 32 ∷ decimal id) lacks ∙ more name _ _ (cut key (decimal id) lacks' ∙ more key _ _ (one (decimal id) (lacks-number id)))

  words_with_receiver : (rest : List ℕ) → words_of (name ++ 32 ∷ (key ++ 32 ∷ (decimal id ++ 32 ∷ rest))) ≡ name ∷ (key ∷ (decimal id ∷ words_of rest))
  words_with_receiver rest =
      cut name (key ++ 32 ∷ (decimal id ++ 32 ∷ rest)) lacks
      ∙ more name _ _ (cut key (decimal id ++ 32 ∷ rest) lacks' ∙ more key _ _ (cut (decimal id) rest (lacks-number id)))

dropped_at : (key id : List ℕ) → verdict_at (codes "dropped" ∷ (key ∷ (id ∷ []))) ≡ Some (codes "dropped " ++ key ++ codes " " ++ id)
unfolding verdict_at
dropped_at key id = refl

delivered_at : (key id : List ℕ) (behind : List (List ℕ)) → verdict_at (codes "deliver" ∷ (key ∷ (id ∷ behind))) ≡ Some (codes "deliver " ++ key ++ codes " " ++ id)
unfolding verdict_at
delivered_at key id behind = refl

alone_at : (verdict_at (codes "malformed" ∷ []) ≡ Some (codes "malformed")) × (verdict_at (codes "nogroup" ∷ []) ≡ Some (codes "nogroup")) × (verdict_at (codes "nomembers" ∷ []) ≡ Some (codes "nomembers"))
unfolding verdict_at
alone_at = (refl, refl, refl)

pub verdicts_are_counted : VerdictsAreCounted
verdicts_are_counted version Malformed small member =
    judged_kind version (codes "malformed") (codes "malformed" ∷ []) (codes "malformed") (one (codes "malformed") (lacks-test 32 (codes "malformed") refl)) alone_at.0
verdicts_are_counted version NoGroup small member =
    judged_kind version (codes "nogroup") (codes "nogroup" ∷ []) (codes "nogroup") (one (codes "nogroup") (lacks-test 32 (codes "nogroup") refl)) alone_at.1
verdicts_are_counted version NoMembers small member =
    judged_kind version (codes "nomembers") (codes "nomembers" ∷ []) (codes "nomembers") (one (codes "nomembers") (lacks-test 32 (codes "nomembers") refl)) alone_at.2
verdicts_are_counted version (Dropped group id) small member = dropped (endpoint_text group) (lacks-endpoint 32 group (omega arith))
  where
    dropped : (key : List ℕ) → Lacks 32 key → reply_kind (codes "version " ++ decimal version ++ codes " " ++ (codes "dropped " ++ key ++ codes " " ++ decimal id)) ≡ Some (codes "dropped " ++ key ++ codes " " ++ decimal id)
    dropped key lacks =
        let told : List ℕ = codes "dropped " ++ key ++ codes " " ++ decimal id in
        let regrouped : told ≡ codes "dropped" ++ 32 ∷ (key ++ 32 ∷ decimal id) = simp append_assoc in
        judged_kind version told (codes "dropped" ∷ (key ∷ (decimal id ∷ []))) told
        (ap words_of regrouped ∙ words_with_member (codes "dropped") key (lacks-test 32 (codes "dropped") refl) lacks id) (dropped_at key (decimal id))
verdicts_are_counted version (Deliver group id to bytes) small member = delivered (endpoint_text group) (endpoint_text to) (lacks-endpoint 32 group (omega arith))
  where
    delivered : (key receiver : List ℕ) → Lacks 32 key → reply_kind (codes "version " ++ decimal version ++ codes " " ++ (codes "deliver " ++ key ++ codes " " ++ decimal id ++ codes " " ++ receiver ++ codes " " ++ decimal bytes)) ≡ Some (codes "deliver " ++ key ++ codes " " ++ decimal id)
    delivered key receiver lacks =
        let told : List ℕ = codes "deliver " ++ key ++ codes " " ++ decimal id ++ codes " " ++ receiver ++ codes " " ++ decimal bytes in
        let rest : List ℕ = receiver ++ 32 ∷ decimal bytes in
        let regrouped : told ≡ codes "deliver" ++ 32 ∷ (key ++ 32 ∷ (decimal id ++ 32 ∷ (receiver ++ 32 ∷ decimal bytes))) = simp append_assoc in
        judged_kind version told (codes "deliver" ∷ (key ∷ (decimal id ∷ words_of rest))) (codes "deliver " ++ key ++ codes " " ++ decimal id)
        (ap words_of regrouped ∙ words_with_receiver (codes "deliver") key (lacks-test 32 (codes "deliver") refl) lacks id rest) (delivered_at key (decimal id) (words_of rest))

-- ---- refusals

above-asm : (fault : AsmFault) → is_above_space (name_text (asm_code fault)) ≡ true
unfolding digits encode_utf8
above-asm (asm.Syntax line) = refl
above-asm (asm.UnknownLabel line) = refl
above-asm (asm.DoubleLabel line) = refl
above-asm (asm.BackwardJump line) = refl
above-asm (asm.TooFar line) = refl
above-asm asm.OutOfMemory = refl

above-verify : (fault : Fault) → is_above_space (name_text (verify_code fault)) ≡ true
unfolding digits encode_utf8
above-verify verify.Empty = refl
above-verify verify.TooLong = refl
above-verify (verify.BadOpcode pc) = refl
above-verify (verify.StrayField pc) = refl
above-verify (verify.ZeroDivisor pc) = refl
above-verify (verify.BadShift pc) = refl
above-verify (verify.BadCell pc) = refl
above-verify (verify.JumpOutside pc) = refl
above-verify (verify.Ancillary pc) = refl
above-verify verify.NoReturn = refl
above-verify (verify.UnstoredCell pc) = refl

above-parse : (fault : ParseFault) → is_above_space (name_text (parse_code fault)) ≡ true
unfolding digits encode_utf8
above-parse (parse.Syntax place) = refl
above-parse (parse.NumberTooBig place) = refl
above-parse (parse.BadAddress place) = refl
above-parse (parse.BadPrefix place) = refl
above-parse (parse.TooDeep place) = refl
above-parse parse.OutOfMemory = refl

above-compile : (fault : CompileFault) → is_above_space (name_text (compile_code fault)) ≡ true
unfolding digits encode_utf8
above-compile compile.CellsExceeded = refl
above-compile compile.TooLong = refl
above-compile compile.OutOfMemory = refl

above-refusal : (fault : Refusal) → is_above_space (name_text (command_code fault)) ≡ true
unfolding digits encode_utf8
above-refusal refusal.NoGroup = refl
above-refusal refusal.GroupExists = refl
above-refusal refusal.NoMember = refl
above-refusal refusal.MemberExists = refl
above-refusal refusal.TooManyGroups = refl
above-refusal refusal.GroupFull = refl
above-refusal refusal.NoProgram = refl
above-refusal refusal.OutOfMemory = refl
above-refusal refusal.Locked = refl

above-publish : (fault : PublishFault) → is_above_space (name_text (publish_code fault)) ≡ true
unfolding digits encode_utf8
above-publish publish.TooBig = refl
above-publish publish.Busy = refl
above-publish publish.Exhausted = refl

pub above-reason : (reason : Reason) → is_above_space (name_text (reason_code reason)) ≡ true
unfolding digits encode_utf8
above-reason BadForm = refl
above-reason LineTooLong = refl
above-reason PacketTooLong = refl
above-reason (Text (Assembly fault)) = above-asm fault
above-reason (Text (Words fault)) = above-verify fault
above-reason (Text (Expression fault)) = above-parse fault
above-reason (Text (Compiling fault)) = above-compile fault
above-reason (Text OutOfMemory) = refl
above-reason (Command why) = above-refusal why
above-reason (Publishing fault) = above-publish fault
above-reason (OtherVersion current) = refl

refused_at : (name : List ℕ) (behind : List (List ℕ)) → option_or (verdict_in (codes "refused" ∷ (name ∷ behind))) (refusal_in (codes "refused" ∷ (name ∷ behind))) ≡ Some (codes "refused " ++ name)
unfolding verdict_in refusal_in
refused_at name [] = refl
refused_at name (word ∷ behind) = refl

refused_kind : (name : List ℕ) (number : Option ℕ) → Lacks 32 name → reply_kind (codes "refused " ++ name ++ place_text number) ≡ Some (codes "refused " ++ name)
refused_kind name None lacks =
    let regrouped : codes "refused " ++ name ++ [] ≡ codes "refused" ++ 32 ∷ name = simp (append_assoc, append-nil) in
    kind_by_words (codes "refused " ++ name ++ []) (codes "refused" ∷ (name ∷ []))
    (ap words_of regrouped ∙ (cut (codes "refused") name (lacks-test 32 (codes "refused") refl) ∙ more (codes "refused") _ _ (one name lacks)))
    ∙ refused_at name []
refused_kind name (Some number) lacks =
    let regrouped : codes "refused " ++ name ++ (codes " " ++ decimal number) ≡ codes "refused" ++ 32 ∷ (name ++ 32 ∷ decimal number) = simp append_assoc in
    kind_by_words (codes "refused " ++ name ++ (codes " " ++ decimal number)) (codes "refused" ∷ (name ∷ words_of (decimal number)))
    (ap words_of regrouped
    ∙ (cut (codes "refused") (name ++ 32 ∷ decimal number) (lacks-test 32 (codes "refused") refl) ∙ more (codes "refused") _ _ (cut name (decimal number) lacks)))
    ∙ refused_at name (words_of (decimal number))

-- the same of a line of a block
with_line : (name place number : List ℕ) → codes "refused " ++ (name ++ place) ++ codes " line " ++ number ≡ codes "refused " ++ (name ++ (place ++ (codes " line " ++ number)))
with_line name place number =
    ap (λ (t : List ℕ). codes "refused " ++ t) (append_assoc (name ++ place) (codes " line ") number ∙ append_assoc name place (codes " line " ++ number))

line_refused_words : (name place number rest : List ℕ) → Lacks 32 name → place ++ (codes " line " ++ number) ≡ 32 ∷ rest
    → reply_kind (codes "refused " ++ (name ++ place) ++ codes " line " ++ number) ≡ Some (codes "refused " ++ name)
line_refused_words name place number rest lacks is =
    kind_by_words (codes "refused " ++ (name ++ place) ++ codes " line " ++ number) (codes "refused" ∷ (name ∷ words_of rest))
    (ap words_of (with_line name place number ∙ ap (λ (t : List ℕ). codes "refused " ++ (name ++ t)) is)
    ∙ (cut (codes "refused") (name ++ 32 ∷ rest) (lacks-test 32 (codes "refused") refl) ∙ more (codes "refused") _ _ (cut name rest lacks)))
    ∙ refused_at name (words_of rest)

line_refused_kind : (name : List ℕ) (place : Option ℕ) (number : List ℕ) → Lacks 32 name
    → reply_kind (codes "refused " ++ (name ++ place_text place) ++ codes " line " ++ number) ≡ Some (codes "refused " ++ name)
line_refused_kind name None number lacks = line_refused_words name [] number (codes "line " ++ number) lacks refl
line_refused_kind name (Some place) number lacks =
    line_refused_words name (codes " " ++ decimal place) number (decimal place ++ (codes " line " ++ number)) lacks refl

lacks-name : (reason : Reason) → Lacks 32 (name_text (reason_code reason))
lacks-name reason = lacks-above 32 (name_text (reason_code reason)) (omega arith) (above-reason reason)

pub refusals_are_counted : RefusalsAreCounted
refusals_are_counted = (
  λ reason. refused_kind (name_text (reason_code reason)) (reason_code reason).place (lacks-name reason),
  λ number reason. line_refused_kind (name_text (reason_code reason)) (reason_code reason).place (decimal number) (lacks-name reason),
)

-- ---- other replies

ok_at : (behind : List (List ℕ)) → option_or (verdict_in (codes "ok" ∷ (codes "version" ∷ behind))) (refusal_in (codes "ok" ∷ (codes "version" ∷ behind))) ≡ None
unfolding verdict_in refusal_in
ok_at behind = refl

pub changes_are_not_counted : ChangesAreNotCounted
changes_are_not_counted version =
    kind_by_words (codes "ok version " ++ decimal version) (codes "ok" ∷ (codes "version" ∷ words_of (decimal version)))
    (cut (codes "ok") (codes "version" ++ 32 ∷ decimal version) (lacks-test 32 (codes "ok") refl)
    ∙ more (codes "ok") _ _ (cut (codes "version") (decimal version) (lacks-test 32 (codes "version") refl)))
    ∙ ok_at (words_of (decimal version))

shown_at : (number : List ℕ) (behind : List (List ℕ)) → option_or (verdict_in (codes "version" ∷ (number ∷ (codes "groups" ∷ behind)))) (refusal_in (codes "version" ∷ (number ∷ (codes "groups" ∷ behind)))) ≡ None
unfolding verdict_in verdict_at refusal_in
shown_at number behind = refl

shown_regrouped : (version groups members charge : List ℕ)
    → codes "version " ++ version ++ codes " groups " ++ groups ++ codes " members " ++ members ++ codes " charge " ++ charge
    ≡ codes "version" ++ 32 ∷ (version ++ 32 ∷ (codes "groups" ++ 32 ∷ (groups ++ (codes " members " ++ (members ++ (codes " charge " ++ charge))))))
shown_regrouped version groups members charge = simp append_assoc

pub shows_are_not_counted : ShowsAreNotCounted
shows_are_not_counted version groups members charge small =
    let rest : List ℕ = decimal groups ++ (codes " members " ++ (decimal members ++ (codes " charge " ++ decimal charge))) in
    kind_by_words (reply_text (Shown version groups members charge)) (codes "version" ∷ (decimal version ∷ (codes "groups" ∷ words_of rest)))
    (ap words_of (shown_regrouped (decimal version) (decimal groups) (decimal members) (decimal charge))
    ∙ (cut (codes "version") (decimal version ++ 32 ∷ (codes "groups" ++ 32 ∷ rest)) (lacks-test 32 (codes "version") refl)
    ∙ more (codes "version") _ _ (cut (decimal version) (codes "groups" ++ 32 ∷ rest) (lacks-number version)
    ∙ more (decimal version) _ _ (cut (codes "groups") rest (lacks-test 32 (codes "groups") refl)))))
    ∙ shown_at (decimal version) (words_of rest)

-- a reply that reads: `version N`, another word, and more
read_at : (word : List ℕ) (kind : Option (List ℕ)) → ((number : List ℕ) (behind : List (List ℕ)) → option_or (verdict_in (codes "version" ∷ (number ∷ (word ∷ behind)))) (refusal_in (codes "version" ∷ (number ∷ (word ∷ behind)))) ≡ kind)
    → Lacks 32 word → (version : ℕ) (text rest : List ℕ) → text ≡ codes "version" ++ 32 ∷ (decimal version ++ 32 ∷ (word ++ 32 ∷ rest)) → reply_kind text ≡ kind
read_at word kind known lacks version text rest is =
    kind_by_words text (codes "version" ∷ (decimal version ∷ (word ∷ words_of rest)))
    (ap words_of is
    ∙ (cut (codes "version") (decimal version ++ 32 ∷ (word ++ 32 ∷ rest)) (lacks-test 32 (codes "version") refl)
    ∙ more (codes "version") _ _ (cut (decimal version) (word ++ 32 ∷ rest) (lacks-number version)
    ∙ more (decimal version) _ _ (cut word rest lacks))))
    ∙ known (decimal version) (words_of rest)

none_read : (number : List ℕ) (behind : List (List ℕ))
    → (option_or (verdict_in (codes "version" ∷ (number ∷ (codes "group" ∷ behind)))) (refusal_in (codes "version" ∷ (number ∷ (codes "group" ∷ behind)))) ≡ None)
    × (option_or (verdict_in (codes "version" ∷ (number ∷ (codes "member" ∷ behind)))) (refusal_in (codes "version" ∷ (number ∷ (codes "member" ∷ behind)))) ≡ None)
    × (option_or (verdict_in (codes "version" ∷ (number ∷ (codes "words" ∷ behind)))) (refusal_in (codes "version" ∷ (number ∷ (codes "words" ∷ behind)))) ≡ None)
unfolding verdict_in verdict_at refusal_in
none_read number behind = (refl, refl, refl)

group_regrouped : (version index groups key members selector : List ℕ)
    → codes "version " ++ version ++ codes " group " ++ index ++ codes " of " ++ groups ++ codes " " ++ key ++ codes " members " ++ members ++ codes " selector " ++ selector
    ≡ codes "version" ++ 32 ∷ (version ++ 32 ∷ (codes "group" ++ 32 ∷ (index ++ (codes " of " ++ (groups ++ (codes " " ++ (key ++ (codes " members " ++ (members ++ (codes " selector " ++ selector))))))))))
group_regrouped version index groups key members selector = simp append_assoc

member_regrouped : (version index members id to filter locked : List ℕ)
    → codes "version " ++ version ++ codes " member " ++ index ++ codes " of " ++ members ++ codes " " ++ id ++ codes " " ++ to ++ codes " filter " ++ filter ++ codes " locked " ++ locked
    ≡ codes "version" ++ 32 ∷ (version ++ 32 ∷ (codes "member" ++ 32 ∷ (index ++ (codes " of " ++ (members ++ (codes " " ++ (id ++ (codes " " ++ (to ++ (codes " filter " ++ (filter ++ (codes " locked " ++ locked))))))))))))
member_regrouped version index members id to filter locked = simp append_assoc

words_regrouped : (version place count words : List ℕ)
    → codes "version " ++ version ++ codes " words " ++ place ++ codes " of " ++ count ++ words
    ≡ codes "version" ++ 32 ∷ (version ++ 32 ∷ (codes "words" ++ 32 ∷ (place ++ (codes " of " ++ (count ++ words)))))
words_regrouped version place count words = simp append_assoc

pub reads_are_not_counted : ReadsAreNotCounted
reads_are_not_counted = (
  λ version index groups key members selector.
      read_at (codes "group") None (λ number behind. (none_read number behind).0) (lacks-test 32 (codes "group") refl) version (reply_text (GroupRead version index groups key members selector)) _
      (group_regrouped (decimal version) (decimal index) (decimal groups) (endpoint_text key) (decimal members) (decimal selector)),
  λ version index members id to filter locked.
      read_at (codes "member") None (λ number behind. (none_read number behind).1) (lacks-test 32 (codes "member") refl) version (reply_text (MemberRead version index members id to filter locked)) _
      (member_regrouped (decimal version) (decimal index) (decimal members) (decimal id) (endpoint_text to) (decimal filter) (decimal (flag locked))),
  λ version place count words.
      read_at (codes "words") None (λ number behind. (none_read number behind).2) (lacks-test 32 (codes "words") refl) version (reply_text (WordsRead version place count words)) _
      (words_regrouped (decimal version) (decimal place) (decimal count) (flat_map spaced_word (take (count - place) words))),
)

-- a malformed packet that a line judges
malformed_at : (number : List ℕ) (behind : List (List ℕ))
    → option_or (verdict_in (codes "version" ∷ (number ∷ (codes "malformed" ∷ behind)))) (refusal_in (codes "version" ∷ (number ∷ (codes "malformed" ∷ behind)))) ≡ Some (codes "malformed")
unfolding verdict_in verdict_at refusal_in
malformed_at number behind = refl

malformed_regrouped : (version why : List ℕ) → codes "version " ++ version ++ codes " malformed " ++ why ≡ codes "version" ++ 32 ∷ (version ++ 32 ∷ (codes "malformed" ++ 32 ∷ why))
malformed_regrouped version why = simp append_assoc

pub malformations_are_counted : MalformationsAreCounted
malformations_are_counted version why =
    read_at (codes "malformed") (Some (codes "malformed")) malformed_at (lacks-test 32 (codes "malformed") refl) version (reply_text (PacketMalformed version why)) (malformation_text why)
    (malformed_regrouped (decimal version) (malformation_text why))

swept_at : (behind : List (List ℕ)) → option_or (verdict_in (codes "reclaimed" ∷ behind)) (refusal_in (codes "reclaimed" ∷ behind)) ≡ None
unfolding verdict_in refusal_in
swept_at [] = refl
swept_at (number ∷ behind) = refl

pub sweeps_are_not_counted : SweepsAreNotCounted
sweeps_are_not_counted reclaimed =
    let rest : List ℕ = decimal reclaimed.first ++ codes " " ++ decimal reclaimed.count in
    let regrouped : reply_text (Swept reclaimed) ≡ codes "reclaimed" ++ 32 ∷ (decimal reclaimed.first ++ codes " " ++ decimal reclaimed.count) = simp append_assoc in
    kind_by_words (reply_text (Swept reclaimed)) (codes "reclaimed" ∷ words_of rest)
    (ap words_of regrouped ∙ cut (codes "reclaimed") rest (lacks-test 32 (codes "reclaimed") refl))
    ∙ swept_at (words_of rest)
