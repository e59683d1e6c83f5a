-- The fields of replies, and what a reply shows of the version that it names.
use Rattle.std.proofs.Common.{◌≡◌, ◌∙◌, ◌-◌, ◌∷◌, ◌++◌, Bool, List, [], ap, append-nil, append_assoc, arith, codes, decimal, get_or, inl, map, refl, sym, take, ℕ}
use Rattle.std.specs.List.{AllZip, flat_map}
use Rattle.std.proofs.lemmas.Bool.{eq-eqb, false≢true}
use Rattle.std.proofs.lemmas.Grind.{common_steps}
use Rattle.ipv4_fields.specs.declared.endpoint.Endpoint.{Endpoint}
use Rattle.ipv4_fields.specs.Cut.{Lacks}
use Rattle.ipv4_fields.specs.Endpoint.{endpoint_text}
use Rattle.ipv4_fields.proofs.TextLemmas.{lacks-decimal, lacks-endpoint, lacks-test}
use Rattle.bpf_formats.specs.Hex.{SpellsDigits, hex_digits}
use Rattle.control_line.specs.Reason.{refusal_text}
use Rattle.control_line.specs.Reply.{flag, reply_text, spaced_word}
use Rattle.control_line.specs.Request.{spaced}
use Rattle.control_line.specs.declared.reason.Reason.{Reason}
use Rattle.control_line.specs.declared.reply.LineAnswer.TheVariants.{GroupRead, MemberRead, Shown, WordsRead}
use Rattle.control_rules.specs.Fields.{fields_in}
use Rattle.control_rules.proofs.FieldLemmas.{AllLack, fields-cut, fields-spaced}
use Rattle.control_rules.proofs.WordLemmas.{lacks_digits}
use Rattle.bpf_formats.proofs.DigitLemmas.{hex_spells, one_word}
use Rattle.bpf_formats.proofs.PrintLemmas.{Fit}
use Rattle.control_line.specs.Reason.{reason_code}
use Rattle.fault_code.specs.Code.{code_text}

-- ---- the fields of each reply

lacks-number : (n : ℕ) → Lacks 32 (decimal n)
lacks-number n = lacks-decimal 32 n (inl (omega arith))

lacks-key : (e : Endpoint) → Lacks 32 (endpoint_text e)
lacks-key e = lacks-endpoint 32 e (omega arith)

-- texts one after the other, whichever two are put together first
right_of_twelve : (p a q b r c s d t e u f : List ℕ) → p ++ a ++ q ++ b ++ r ++ c ++ s ++ d ++ t ++ e ++ u ++ f
    ≡ p ++ (a ++ (q ++ (b ++ (r ++ (c ++ (s ++ (d ++ (t ++ (e ++ (u ++ f))))))))))
right_of_twelve p a q b r c s d t e u f = grind (arith, append_assoc)

right_of_fourteen : (p a q b r c s d t e u f v g : List ℕ) → p ++ a ++ q ++ b ++ r ++ c ++ s ++ d ++ t ++ e ++ u ++ f ++ v ++ g
    ≡ p ++ (a ++ (q ++ (b ++ (r ++ (c ++ (s ++ (d ++ (t ++ (e ++ (u ++ (f ++ (v ++ g))))))))))))
right_of_fourteen p a q b r c s d t e u f v g = grind (arith, append_assoc)

-- replies as fields with a space between each two
shown-spaced : (version groups members charge : ℕ) → reply_text (Shown version groups members charge)
    ≡ spaced (codes "version" ∷ decimal version ∷ codes "groups" ∷ decimal groups ∷ codes "members" ∷ decimal members ∷ codes "charge" ∷ decimal charge ∷ [])
shown-spaced version groups members charge = grind (arith, common_steps)

group-spaced : (version index groups : ℕ) (key : Endpoint) (members selector : ℕ) → reply_text (GroupRead version index groups key members selector)
    ≡ spaced (codes "version" ∷ decimal version ∷ codes "group" ∷ decimal index ∷ codes "of" ∷ decimal groups ∷ endpoint_text key
    ∷ codes "members" ∷ decimal members ∷ codes "selector" ∷ decimal selector ∷ [])
group-spaced version index groups key members selector =
    right_of_twelve (codes "version ") (decimal version) (codes " group ") (decimal index) (codes " of ") (decimal groups) (codes " ") (endpoint_text key)
    (codes " members ") (decimal members) (codes " selector ") (decimal selector)

member-spaced : (version index members id : ℕ) (to : Endpoint) (filter : ℕ) (locked : Bool) → reply_text (MemberRead version index members id to filter locked)
    ≡ spaced (codes "version" ∷ decimal version ∷ codes "member" ∷ decimal index ∷ codes "of" ∷ decimal members ∷ decimal id ∷ endpoint_text to
    ∷ codes "filter" ∷ decimal filter ∷ codes "locked" ∷ decimal (flag locked) ∷ [])
member-spaced version index members id to filter locked =
    right_of_fourteen (codes "version ") (decimal version) (codes " member ") (decimal index) (codes " of ") (decimal members) (codes " ") (decimal id)
    (codes " ") (endpoint_text to) (codes " filter ") (decimal filter) (codes " locked ") (decimal (flag locked))

words-text : (version place count : ℕ) (shown : List ℕ) →
    codes "version " ++ decimal version ++ codes " words " ++ decimal place ++ codes " of " ++ decimal count ++ flat_map spaced_word shown
    ≡ codes "version " ++ (decimal version ++ (codes " words " ++ (decimal place ++ (codes " of " ++ (decimal count ++ flat_map spaced_word shown)))))
words-text version place count shown = grind (arith, common_steps)

pub shown-fields : (version groups members charge : ℕ) → fields_in (reply_text (Shown version groups members charge))
    ≡ codes "version" ∷ decimal version ∷ codes "groups" ∷ decimal groups ∷ codes "members" ∷ decimal members ∷ codes "charge" ∷ decimal charge ∷ []
shown-fields version groups members charge =
    ap fields_in (shown-spaced version groups members charge)
    ∙ fields-spaced (codes "version") (decimal version ∷ codes "groups" ∷ decimal groups ∷ codes "members" ∷ decimal members ∷ codes "charge" ∷ decimal charge ∷ [])
    (lacks-test 32 (codes "version") refl, (lacks-number version, (lacks-test 32 (codes "groups") refl, (lacks-number groups, (lacks-test 32 (codes "members") refl, (lacks-number members, (lacks-test 32 (codes "charge") refl, (lacks-number charge, tt))))))))

pub group-fields : (version index groups : ℕ) (key : Endpoint) (members selector : ℕ) → fields_in (reply_text (GroupRead version index groups key members selector))
    ≡ codes "version" ∷ decimal version ∷ codes "group" ∷ decimal index ∷ codes "of" ∷ decimal groups ∷ endpoint_text key
    ∷ codes "members" ∷ decimal members ∷ codes "selector" ∷ decimal selector ∷ []
group-fields version index groups key members selector =
    ap fields_in (group-spaced version index groups key members selector)
    ∙ fields-spaced (codes "version")
    (decimal version ∷ codes "group" ∷ decimal index ∷ codes "of" ∷ decimal groups ∷ endpoint_text key
    ∷ codes "members" ∷ decimal members ∷ codes "selector" ∷ decimal selector ∷ [])
    (lacks-test 32 (codes "version") refl, (lacks-number version, (lacks-test 32 (codes "group") refl, (lacks-number index, (lacks-test 32 (codes "of") refl, (lacks-number groups, (lacks-key key, (lacks-test 32 (codes "members") refl, (lacks-number members, (lacks-test 32 (codes "selector") refl, (lacks-number selector, tt)))))))))))

lacks-flag : (set : Bool) → Lacks 32 (decimal (flag set))
lacks-flag set = lacks-number (flag set)

pub member-fields : (version index members id : ℕ) (to : Endpoint) (filter : ℕ) (locked : Bool) →
    fields_in (reply_text (MemberRead version index members id to filter locked))
    ≡ codes "version" ∷ decimal version ∷ codes "member" ∷ decimal index ∷ codes "of" ∷ decimal members ∷ decimal id ∷ endpoint_text to
    ∷ codes "filter" ∷ decimal filter ∷ codes "locked" ∷ decimal (flag locked) ∷ []
member-fields version index members id to filter locked =
    ap fields_in (member-spaced version index members id to filter locked)
    ∙ fields-spaced (codes "version")
    (decimal version ∷ codes "member" ∷ decimal index ∷ codes "of" ∷ decimal members ∷ decimal id ∷ endpoint_text to
    ∷ codes "filter" ∷ decimal filter ∷ codes "locked" ∷ decimal (flag locked) ∷ [])
    (lacks-test 32 (codes "version") refl, (lacks-number version, (lacks-test 32 (codes "member") refl, (lacks-number index, (lacks-test 32 (codes "of") refl, (lacks-number members, (lacks-number id, (lacks-key to, (lacks-test 32 (codes "filter") refl, (lacks-number filter, (lacks-test 32 (codes "locked") refl, (lacks-flag locked, tt))))))))))))

abbrev pub hex_fields : List ℕ → List (List ℕ)
hex_fields words = map (λ word. hex_digits 16 word) words

-- words after another field, each after a space
words-spaced : (field : List ℕ) (words : List ℕ) → spaced (field ∷ hex_fields words) ≡ field ++ flat_map spaced_word words
words-spaced field [] = sym (append-nil field)
words-spaced field (word ∷ words) = ap (λ rest. field ++ 32 ∷ rest) (words-spaced (hex_digits 16 word) words)

all-lack-digits : (words : List ℕ) → Fit words → AllLack (hex_fields words)
all-lack-digits [] fit = tt
all-lack-digits (word ∷ words) fit = (lacks_digits (hex_digits 16 word) (hex_spells word fit.0).digits, all-lack-digits words fit.1)

pub words-fields : (version place count : ℕ) (words : List ℕ) → Fit (take (count - place) words) → fields_in (reply_text (WordsRead version place count words))
    ≡ codes "version" ∷ decimal version ∷ codes "words" ∷ decimal place ∷ codes "of" ∷ decimal count ∷ hex_fields (take (count - place) words)
words-fields version place count words fit =
    let shown = take (count - place) words in
    ap fields_in (words-text version place count shown)
    ∙ ap (λ rest. fields_in (codes "version " ++ (decimal version ++ (codes " words " ++ (decimal place ++ (codes " of " ++ rest)))))) (sym (words-spaced (decimal count) shown))
    ∙ fields-spaced (codes "version") (decimal version ∷ codes "words" ∷ decimal place ∷ codes "of" ∷ decimal count ∷ hex_fields shown)
    (lacks-test 32 (codes "version") refl, (lacks-number version, (lacks-test 32 (codes "words") refl, (lacks-number place, (lacks-test 32 (codes "of") refl, (lacks-number count, all-lack-digits shown fit))))))

pub words_are : (words shown : List ℕ) → Fit words → AllZip SpellsDigits (hex_fields words) shown → shown ≡ words
words_are [] [] fit all = refl
words_are [] (one ∷ shown) fit all = absurd all
words_are (word ∷ words) [] fit all = absurd all
words_are (word ∷ words) (one ∷ shown) fit all =
    let first : one ≡ word = one_word (hex_digits 16 word) one word all.0 (hex_spells word fit.0) in
    let rest = words_are words shown fit.1 all.1 in cc

-- a refusal has another first field
refusal-fields : (reason : Reason) → (rest : List (List ℕ)) × (fields_in (refusal_text reason) ≡ codes "refused" ∷ rest)
refusal-fields reason = (fields_in (code_text (reason_code reason)), fields-cut (codes "refused") (code_text (reason_code reason)) (lacks-test 32 (codes "refused") refl))

pub no_refusal : (reply : List ℕ) (reason : Reason) (rest : List (List ℕ)) → reply ≡ refusal_text reason → fields_in reply ≡ codes "version" ∷ rest → ⊥
no_refusal reply reason rest is fields =
    let refused = refusal-fields reason in
    let both : codes "refused" ∷ refused.0 ≡ codes "version" ∷ rest = sym refused.1 ∙ ap fields_in (sym is) ∙ fields in
    let first : codes "refused" ≡ codes "version" = cc in
    false≢true (eq-eqb (get_or (codes "refused") 0 0) (get_or (codes "version") 0 0) (ap (λ text. get_or text 0 0) first))
