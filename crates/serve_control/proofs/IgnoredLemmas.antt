-- Which texts look like replies: what begins so, and every answer.
use Rattle.std.proofs.Common.{◌≡◌, ◌||◌, ◌∙◌, ◌++◌, Bool, List, Option, codes, false, refl, subst, sym, true, ℕ}
use Rattle.std.proofs.lemmas.Bool.{false≢true}
use Rattle.std.proofs.lemmas.Slice.Eq.{bytes_eq-Decides}
use Rattle.std.specs.Prelude.{bytes_eq}
use Rattle.ipv4_fields.specs.Cut.{IsSplitAt, Lacks}
use Rattle.ipv4_fields.proofs.TextLemmas.{has_separator, lacks-test, one_cut}
use Rattle.control_line.specs.Reply.{reply_text}
use Rattle.control_line.specs.declared.reply.LineAnswer.{LineAnswer}
use Rattle.control_line.specs.declared.reply.LineAnswer.TheVariants.{GroupRead, LineRefused, MemberRead, PacketJudged, PacketMalformed, Published, Refused, Shown, Swept, WordsRead}
use Rattle.member_counts.specs.Table.{Table}
use Rattle.member_counts.specs.declared.key.CountKey.{CountKey}
use Rattle.read_section.specs.Operator.{OperatorValue}
use Rattle.serve_control.specs.Answer.{AnswersText, RepliesToLine, Service, answers_line, bytes_of, no_memory, replied, stops, tells_counters, tells_totals}
use Rattle.serve_control.specs.Ignored.{BeginsReplies, IsAlwaysIgnored, LooksLikeReply, delivered, failed, malformed, ok, ready, reclaimed, refused, reply, version}
use Rattle.serve_control.specs.Members.{IsCountsReply, no_group, no_member, of_group, of_member}
use Rattle.serve_control.specs.declared.ControlAnswer.{ControlAnswer}

-- ---- the first word

lacks-space : (word : List ℕ) → BeginsReplies word → Lacks 32 word
lacks-space word ok = lacks-test 32 (codes "ok") refl
lacks-space word refused = lacks-test 32 (codes "refused") refl
lacks-space word failed = lacks-test 32 (codes "failed") refl
lacks-space word version = lacks-test 32 (codes "version") refl
lacks-space word reclaimed = lacks-test 32 (codes "reclaimed") refl
lacks-space word malformed = lacks-test 32 (codes "malformed") refl
lacks-space word delivered = lacks-test 32 (codes "delivered") refl
lacks-space word ready = lacks-test 32 (codes "ready") refl

pub looks_by_word : (text word rest : List ℕ) → IsSplitAt 32 text word rest → BeginsReplies word → LooksLikeReply text
looks_by_word text word rest cut begins = record { word = word; rest = rest; begins_replies = begins; whole = cut.whole }

pub word_of_reply : (text word rest : List ℕ) → IsSplitAt 32 text word rest → LooksLikeReply text → BeginsReplies word
word_of_reply text word rest cut looks =
    let same = one_cut 32 looks.word word looks.rest rest (lacks-space looks.word looks.begins_replies) cut.lacks (sym looks.whole ∙ cut.whole) in
    subst BeginsReplies same.0 looks.begins_replies

pub one_word_is_no_reply : (text : List ℕ) → Lacks 32 text → LooksLikeReply text → ⊥
one_word_is_no_reply text lacks looks = has_separator 32 looks.word looks.rest (subst (Lacks 32) looks.whole lacks)

-- how a word is looked for among them
abbrev pub is_reply_word : List ℕ → Bool
is_reply_word word =
    bytes_eq (codes "ok") word || (bytes_eq (codes "refused") word || (bytes_eq (codes "failed") word || (bytes_eq (codes "version") word
    || (bytes_eq (codes "reclaimed") word || (bytes_eq (codes "malformed") word || (bytes_eq (codes "delivered") word || (bytes_eq (codes "ready") word || false)))))))

same_word : (known word : List ℕ) → BeginsReplies known → bytes_eq known word ≡ true → BeginsReplies word
same_word known word begins same = subst BeginsReplies ((bytes_eq-Decides known word).0 same) begins

either : (x y : Bool) (P : Type 0) → (x ≡ true → P) → (y ≡ true → P) → (x || y) ≡ true → P
either true y P left right e = left refl
either false y P left right e = right e

pub found_begins : (word : List ℕ) → is_reply_word word ≡ true → BeginsReplies word
found_begins word =
    let P = BeginsReplies word in
    either _ _ P (same_word (codes "ok") word ok) (either _ _ P (same_word (codes "refused") word refused) (either _ _ P (same_word (codes "failed") word failed)
    (either _ _ P (same_word (codes "version") word version) (either _ _ P (same_word (codes "reclaimed") word reclaimed) (either _ _ P (same_word (codes "malformed") word malformed)
    (either _ _ P (same_word (codes "delivered") word delivered) (either _ _ P (same_word (codes "ready") word ready) (λ none. absurd (false≢true none)))))))))

pub begins_found : (word : List ℕ) → BeginsReplies word → is_reply_word word ≡ true
begins_found word ok = refl
begins_found word refused = refl
begins_found word failed = refl
begins_found word version = refl
begins_found word reclaimed = refl
begins_found word malformed = refl
begins_found word delivered = refl
begins_found word ready = refl

-- ---- every answer

begun : (word rest : List ℕ) → BeginsReplies word → LooksLikeReply (word ++ (codes " " ++ rest))
begun word rest begins = record { word = word; rest = rest; begins_replies = begins; whole = refl }

line_answer_looks : (answer : LineAnswer) → LooksLikeReply (reply_text answer)
line_answer_looks (Refused reason) = begun (codes "refused") _ refused
line_answer_looks (LineRefused number reason) = begun (codes "refused") _ refused
line_answer_looks (Published number) = begun (codes "ok") _ ok
line_answer_looks (Shown number groups members charge) = begun (codes "version") _ version
line_answer_looks (GroupRead number index groups key members selector) = begun (codes "version") _ version
line_answer_looks (MemberRead number index members id to filter locked) = begun (codes "version") _ version
line_answer_looks (WordsRead number place count words) = begun (codes "version") _ version
line_answer_looks (PacketJudged number judged) = begun (codes "version") _ version
line_answer_looks (PacketMalformed number why) = begun (codes "version") _ version
line_answer_looks (Swept found) = begun (codes "reclaimed") _ reclaimed

line_reply_looks : (text : List ℕ) (operator operator' : OperatorValue) (line : List ℕ) → RepliesToLine text operator operator' line → LooksLikeReply line
line_reply_looks text operator operator' line (replied answer is) = line_answer_looks answer
line_reply_looks text operator operator' line (no_memory same) = begun (codes "failed") _ failed

counts_look : (operator : OperatorValue) (table : Option Table) (asked : CountKey) (line : List ℕ) → IsCountsReply operator table asked line → LooksLikeReply line
counts_look operator table asked line (no_group config current lacks) = begun (codes "refused") _ refused
counts_look operator table asked line (no_member config current has lacks) = begun (codes "refused") _ refused
counts_look operator table asked line (of_group config counts current names has is) = begun (codes "delivered") _ delivered
counts_look operator table asked line (of_member config id counts current names has is) = begun (codes "delivered") _ delivered

answer_looks : (text : List ℕ) (before after : Service) (answer : ControlAnswer) → AnswersText text before after answer
    → LooksLikeReply (bytes_of answer)
answer_looks text before after answer (stops is same) = begun (codes "ok") _ ok
answer_looks text before after answer (tells_totals totals is same) = begun (codes "malformed") _ malformed
answer_looks text before after answer (tells_counters asked line able is same settles replies) = counts_look before.operator after.members asked line replies
answer_looks text before after answer (answers_line line other replies same_tally settles) = line_reply_looks text before.operator after.operator line replies

pub answer_is_ignored : (text : List ℕ) (before after : Service) (answer : ControlAnswer) → AnswersText text before after answer
    → IsAlwaysIgnored (bytes_of answer)
answer_is_ignored text before after answer answers bound sender = reply (answer_looks text before after answer answers)
