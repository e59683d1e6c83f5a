-- No text is two requests.
use Rattle.std.proofs.Common.{◌≡◌, ◌≢◌, ◌∙◌, ◌≤◌, ◌∷◌, ◌++◌, List, None, Option, Some, ap, append_assoc, arith, codes, decimal, length, refl, subst, sym, ℕ}
use Rattle.std.specs.Prelude.{IfSome}
use Rattle.std.proofs.lemmas.Fmt.{decimal_injective}
use Rattle.std.proofs.lemmas.List.{append_cancel_left}
use Rattle.ipv4_fields.specs.Cut.{Lacks}
use Rattle.ipv4_fields.proofs.TextLemmas.{lacks-test}
use Rattle.versions.specs.declared.layout.TheConstants.{LAST_NUMBER}
use Rattle.control_line.specs.declared.TheConstants.{LINE_LIMIT}
use Rattle.control_line.specs.declared.head.Head.{Head}
use Rattle.control_line.specs.declared.head.Start.{Start}
use Rattle.control_line.specs.declared.head.Start.TheVariants.{Current, Empty}
use Rattle.control_line.specs.Block.{HasHead, IsBlock, IsCountFor, IsHead, IsOneMessage, IsTooLong, after_line_feeds, block, for_version, head_text, long_block, long_line, single, start_text, version_prefix}
use Rattle.control_line.specs.Request.{Request, Spells, change}
use Rattle.control_line.proofs.BlockLemmas.{line_cut, one_lines}
use Rattle.control_line.proofs.FormLemmas.{differ, row_by}
use Rattle.control_line.proofs.HeadLemmas.{lacks-head, lacks-start, not_prefix_start, prefix_is, prefix_parts}
use Rattle.control_line.proofs.OneLineLemmas.{one_thing}
use Rattle.control_line.proofs.ReadingLemmas.{no_reading_request, other_word}

-- ---- a line of the table begins with none of these words

no_request : (word fields : List ℕ) → Lacks 32 word → row_by word ≡ None → word ≢ codes "group" → word ≢ codes "member" → word ≢ codes "words" → word ≢ codes "judge" → (request : Request) → Spells (word ++ 32 ∷ fields) request → ⊥
no_request word fields lacks none not_group not_member not_words not_judge request spells =
    no_reading_request word fields word lacks refl none (λ reading. other_word word fields reading lacks not_group not_member not_words not_judge) request spells

pub no_request_at : (v : ℕ) (rest : List ℕ) (request : Request) → Spells (version_prefix (Some v) ++ rest) request → ⊥
no_request_at v rest request spells =
    no_request (codes "at") (decimal v ++ 32 ∷ rest) (lacks-test 32 (codes "at") refl) refl (λ e. differ 0 e refl) (λ e. differ 0 e refl) (λ e. differ 0 e refl) (λ e. differ 0 e refl) request
    (subst (λ text. Spells text request) (prefix_is v rest) spells)

pub no_request_start : (start : Start) (rest : List ℕ) (request : Request) → Spells (start_text start ++ rest) request → ⊥
no_request_start Current rest request spells = no_request (codes "all") rest (lacks-start Current) refl (λ e. differ 0 e refl) (λ e. differ 0 e refl) (λ e. differ 0 e refl) (λ e. differ 0 e refl) request spells
no_request_start Empty rest request spells = no_request (codes "anew") rest (lacks-start Empty) refl (λ e. differ 0 e refl) (λ e. differ 0 e refl) (λ e. differ 0 e refl) (λ e. differ 0 e refl) request spells

-- what follows the version of a block
rest_of_head : (head : Head) (rest : List ℕ) → head_text head ++ rest ≡ version_prefix head.version ++ (start_text head.start ++ (decimal head.count ++ rest))
rest_of_head head rest =
    append_assoc (version_prefix head.version) (start_text head.start ++ decimal head.count) rest
    ∙ ap (λ (t : List ℕ). version_prefix head.version ++ t) (append_assoc (start_text head.start) (decimal head.count) rest)

module _ (text : List ℕ) (head : Head) (rest : List ℕ) (has : HasHead text head rest) where
  abbrev after_version : List ℕ
  after_version = start_text head.start ++ (decimal head.count ++ rest)

  at_version : text ≡ version_prefix head.version ++ after_version
  at_version = has.whole ∙ rest_of_head head rest

  pub no_line : (request : Request) → Spells text request → ⊥
  no_line request spells = by_version head.version (subst (λ t. Spells t request) at_version spells)
    where
      by_version : (version : Option ℕ) → Spells (version_prefix version ++ after_version) request → ⊥
      by_version None spells = no_request_start head.start (decimal head.count ++ rest) request spells
      by_version (Some v) spells = no_request_at v after_version request spells

  pub no_version_line : (v : ℕ) (line : List ℕ) (request : Request) → v ≤ LAST_NUMBER → text ≡ version_prefix (Some v) ++ line → Spells line request → ⊥
  no_version_line v line request small is spells = by_version head.version (sym at_version ∙ is) has.is_head.version
    where
      by_version : (version : Option ℕ) → version_prefix version ++ after_version ≡ version_prefix (Some v) ++ line → IfSome version (λ w. w ≤ LAST_NUMBER) → ⊥
      by_version None same also = not_prefix_start v 0 line (decimal head.count ++ rest) head.start (sym same)
      by_version (Some w) same also = no_request_start head.start (decimal head.count ++ rest) request (subst (λ t. Spells t request) (sym (prefix_parts w v after_version line also small same).1) spells)

-- a line of the table is limited as a line
pub spelled_short : (text : List ℕ) (request : Request) → Spells text request → length text ≤ LINE_LIMIT → IsTooLong text → ⊥
spelled_short text request spells short (long_block head rest has above) = no_line text head rest has request spells
spelled_short text request spells short (long_line none above) = omega arith

-- ---- two first lines

most : (start : Start) (count : ℕ) → IsCountFor start count → count ≤ 65535
most Current count is = is.1
most Empty count is = is

one_start : (start start' : Start) (count count' : ℕ) → IsCountFor start count → IsCountFor start' count' → start_text start ++ decimal count ≡ start_text start' ++ decimal count' → (start ≡ start') × (count ≡ count')
one_start Current Current count count' is is' same = (refl, decimal_injective count count' (omega (arith, most Current count is)) (omega (arith, most Current count' is')) (append_cancel_left (codes "all ") (decimal count) (decimal count') same))
one_start Current Empty count count' is is' same = absurd (differ 1 same refl)
one_start Empty Current count count' is is' same = absurd (differ 1 same refl)
one_start Empty Empty count count' is is' same = (refl, decimal_injective count count' (omega (arith, most Empty count is)) (omega (arith, most Empty count' is')) (append_cancel_left (codes "anew ") (decimal count) (decimal count') same))

one_beginning : (version version' : Option ℕ) (rest rest' : List ℕ) (start start' : Start) (count count' : ℕ) → IfSome version (λ v. v ≤ LAST_NUMBER) → IfSome version' (λ v. v ≤ LAST_NUMBER)
    → rest ≡ start_text start ++ decimal count → rest' ≡ start_text start' ++ decimal count' → version_prefix version ++ rest ≡ version_prefix version' ++ rest' → (version ≡ version') × (rest ≡ rest')
one_beginning None None rest rest' start start' count count' small small' is is' same = (refl, same)
one_beginning None (Some v) rest rest' start start' count count' small small' is is' same = absurd (not_prefix_start v 0 rest' (decimal count) start (sym same ∙ is))
one_beginning (Some v) None rest rest' start start' count count' small small' is is' same = absurd (not_prefix_start v 0 rest (decimal count') start' (same ∙ is'))
one_beginning (Some v) (Some v') rest rest' start start' count count' small small' is is' same =
    let parts = prefix_parts v v' rest rest' small small' same in (ap (λ n. Some n) parts.0, parts.1)

pub one_head : (head other : Head) → IsHead head → IsHead other → head_text head ≡ head_text other → head ≡ other
one_head head other is also same =
    let beginning = one_beginning head.version other.version (start_text head.start ++ decimal head.count) (start_text other.start ++ decimal other.count) head.start other.start head.count other.count is.version also.version refl refl same in
    let start = one_start head.start other.start head.count other.count is.count also.count beginning.1 in
    ap (λ v. record { version = v; start = head.start; count = head.count }) beginning.0
    ∙ ap (λ s. record { version = other.version; start = s; count = head.count }) start.0
    ∙ ap (λ n. record { version = other.version; start = other.start; count = n }) start.1

one_block : (text : List ℕ) (head other : Head) (lines more : List (List ℕ)) → IsBlock text head lines → IsBlock text other more → block head lines ≡ block other more
one_block text head other lines more is also =
    let cut = line_cut (head_text head) (head_text other) (after_line_feeds lines) (after_line_feeds more) (lacks-head head) (lacks-head other) is.has_head.ends_line also.has_head.ends_line (sym is.has_head.whole ∙ also.has_head.whole) in
    ap (λ h. block h lines) (one_head head other is.has_head.is_head also.has_head.is_head cut.0)
    ∙ ap (block other) (one_lines lines more is.are_lines also.are_lines cut.1)

pub one_message : IsOneMessage
one_message text (single one) (single other) spells also = ap single (one_thing text one other spells also)
one_message text (single one) (for_version v command) spells also = absurd (no_request_at v also.1 one (subst (λ t. Spells t one) also.2 spells))
one_message text (single one) (block head lines) spells also = absurd (no_line text head (after_line_feeds lines) also.has_head one spells)
one_message text (for_version v command) (single other) spells also = absurd (no_request_at v spells.1 other (subst (λ t. Spells t other) spells.2 also))
one_message text (for_version v command) (for_version v' command') spells also =
    let parts = prefix_parts v v' spells.1 also.1 spells.0 also.0 (sym spells.2 ∙ also.2) in
    let same = one_thing also.1 (change command) (change command') (subst (λ t. Spells t (change command)) parts.1 spells.3) also.3 in
    let commands : command ≡ command' = cc in
    ap (λ n. for_version n command) parts.0 ∙ ap (for_version v') commands
one_message text (for_version v command) (block head lines) spells also = absurd (no_version_line text head (after_line_feeds lines) also.has_head v spells.1 (change command) spells.0 spells.2 spells.3)
one_message text (block head lines) (single other) spells also = absurd (no_line text head (after_line_feeds lines) spells.has_head other also)
one_message text (block head lines) (for_version v command) spells also = absurd (no_version_line text head (after_line_feeds lines) spells.has_head v also.1 (change command) also.0 also.2 also.3)
one_message text (block head lines) (block other more) spells also = one_block text head other lines more spells also
