-- How a request begins: a version, and the first line of a block.
use Rattle.std.proofs.Common.{◌≡◌, ◌≢◌, ◌∙◌, ◌<◌, ◌≤◌, ◌⊎◌, ◌∷◌, ◌++◌, List, None, Option, Some, ap, append_assoc, arith, codes, decimal, get_or, inl, inr, length, refl, subst, sym, ℕ}
use Rattle.std.specs.Prelude.{IfSome}
use Rattle.std.specs.Str.Parse.{AllDigits, digits_value}
use Rattle.std.proofs.lemmas.Bool.{cases_lt}
use Rattle.std.proofs.lemmas.Fmt.{decimal-digits_value, decimal_digit, decimal_injective, decimal_nonempty, digits_decimal, digits_value-decimal, first_decimal, length-decimal-le}
use Rattle.std.proofs.lemmas.Str.Parse.{IsNumeralModel, numerals_by_value, tells_digits}
use Rattle.ipv4_fields.specs.Cut.{IsSplitAt, Lacks}
use Rattle.ipv4_fields.proofs.TextLemmas.{has_separator, lacks-append, lacks-decimal, lacks-test, number_parts, one_cut}
use Rattle.versions.specs.declared.layout.TheConstants.{LAST_NUMBER}
use Rattle.control_line.specs.declared.TheConstants.{MOST_LINES}
use Rattle.control_line.specs.declared.head.Head.{Head}
use Rattle.control_line.specs.declared.head.Start.{Start}
use Rattle.control_line.specs.declared.head.Start.TheVariants.{Current, Empty}
use Rattle.control_line.specs.Block.{EndsLine, HasHead, IsCountFor, IsHead, head_text, start_text, version_prefix}
use Rattle.control_line.specs.body.Heads.{HasNoHead, IsPlainNumber}
use Rattle.control_line.proofs.BlockLemmas.{line_cut}
use Rattle.control_line.proofs.FormLemmas.{differ}

-- ---- versions

decimals : IsNumeralModel (AllDigits 10) (digits_value 10)
decimals = numerals_by_value (AllDigits 10) tells_digits

pub plain_version : (n : ℕ) → n ≤ LAST_NUMBER → IsPlainNumber (decimal n)
plain_version n small = record {
  not_empty = decimal_nonempty n (omega arith);
  few = length-decimal-le 15 n (omega arith) (omega arith) (omega arith);
  no_leading_zero = λ zero_first. by_value zero_first (cases_lt 0 n);
}
  where
    by_value : get_or (decimal n) 0 0 ≡ 48 → (0 < n) ⊎ (n ≤ 0) → length (decimal n) ≡ 1
    by_value zero_first (inl above) = let first = first_decimal n above (omega arith) in absurd (omega arith)
    by_value zero_first (inr none) = ap length (decimal_digit n (omega arith))

pub digits_of_version : (n : ℕ) → n ≤ LAST_NUMBER → AllDigits 10 (decimal n) × (digits_value 10 (decimal n) ≡ n)
digits_of_version n small = (digits_decimal decimals n (omega arith), digits_value-decimal decimals n (omega arith))

pub spelled_version : (field : List ℕ) → IsPlainNumber field → AllDigits 10 field → digits_value 10 field ≤ LAST_NUMBER → field ≡ decimal (digits_value 10 field)
spelled_version field plain digits small = sym (decimal-digits_value decimals field digits plain.not_empty plain.no_leading_zero (omega arith))

-- ---- `at V `

lacks-at : Lacks 32 (codes "at")
lacks-at = lacks-test 32 (codes "at") refl

lacks-version : (v : ℕ) → Lacks 32 (decimal v)
lacks-version v = lacks-decimal 32 v (inl (omega arith))

-- the fields of the prefix
pub prefix_is : (v : ℕ) (rest : List ℕ) → version_prefix (Some v) ++ rest ≡ codes "at" ++ 32 ∷ (decimal v ++ 32 ∷ rest)
prefix_is v rest = ap (λ (t : List ℕ). codes "at" ++ 32 ∷ t) (append_assoc (decimal v) (codes " ") rest)

pub prefix_parts : (v v' : ℕ) (rest rest' : List ℕ) → v ≤ LAST_NUMBER → v' ≤ LAST_NUMBER → version_prefix (Some v) ++ rest ≡ version_prefix (Some v') ++ rest' → (v ≡ v') × (rest ≡ rest')
prefix_parts v v' rest rest' small small' same =
    let cut = one_cut 32 (codes "at") (codes "at") (decimal v ++ 32 ∷ rest) (decimal v' ++ 32 ∷ rest') lacks-at lacks-at (sym (prefix_is v rest) ∙ same ∙ prefix_is v' rest') in
    number_parts 32 v v' rest rest' (inl (omega arith)) (omega arith) (omega arith) cut.1

module _ (text : List ℕ) where
  abbrev pub HasNoVersion : Type 0
  HasNoVersion = (v : ℕ) (rest : List ℕ) → v ≤ LAST_NUMBER → text ≢ version_prefix (Some v) ++ rest

  pub no_space : Lacks 32 text → HasNoVersion
  no_space lacks v rest small is = has_separator 32 (codes "at") (decimal v ++ 32 ∷ rest) (subst (Lacks 32) (is ∙ prefix_is v rest) lacks)

  module _ (word fields : List ℕ) (cut : IsSplitAt 32 text word fields) where
    parts_are : (v : ℕ) (rest : List ℕ) → text ≡ version_prefix (Some v) ++ rest → (word ≡ codes "at") × (fields ≡ decimal v ++ 32 ∷ rest)
    parts_are v rest is = one_cut 32 word (codes "at") fields (decimal v ++ 32 ∷ rest) cut.lacks lacks-at (sym cut.whole ∙ is ∙ prefix_is v rest)

    pub other_word : word ≢ codes "at" → HasNoVersion
    other_word other v rest small is = other (parts_are v rest is).0

    pub no_more : Lacks 32 fields → HasNoVersion
    no_more lacks v rest small is = has_separator 32 (decimal v) rest (subst (Lacks 32) (parts_are v rest is).1 lacks)

    module _ (number more : List ℕ) (split : IsSplitAt 32 fields number more) where
      pub no_number : ((v : ℕ) → v ≤ LAST_NUMBER → number ≢ decimal v) → HasNoVersion
      no_number misspelt v rest small is =
          misspelt v small (one_cut 32 number (decimal v) more rest split.lacks (lacks-version v) (sym split.whole ∙ (parts_are v rest is).1)).0

      pub is_prefix : (v : ℕ) → word ≡ codes "at" → number ≡ decimal v → text ≡ version_prefix (Some v) ++ more
      is_prefix v at spelled =
          cut.whole
          ∙ ap (λ (w : List ℕ). w ++ 32 ∷ fields) at
          ∙ ap (λ (f : List ℕ). codes "at" ++ 32 ∷ f) (split.whole ∙ ap (λ (n : List ℕ). n ++ 32 ∷ more) spelled)
          ∙ sym (prefix_is v more)

-- ---- `all N` and `anew N`

abbrev pub start_word : Start → List ℕ
start_word Current = codes "all"
start_word Empty = codes "anew"

pub lacks-start : (start : Start) → Lacks 32 (start_word start)
lacks-start Current = lacks-test 32 (codes "all") refl
lacks-start Empty = lacks-test 32 (codes "anew") refl

pub start_is : (start : Start) (rest : List ℕ) → start_text start ++ rest ≡ start_word start ++ 32 ∷ rest
start_is Current rest = refl
start_is Empty rest = refl

most_of : (start : Start) (count : ℕ) → IsCountFor start count → count ≤ MOST_LINES
most_of Current count is = is.1
most_of Empty count is = is

module _ (line : List ℕ) where
  abbrev pub HasNoStart : Type 0
  HasNoStart = (start : Start) (count : ℕ) → IsCountFor start count → line ≢ start_text start ++ decimal count

  pub no_start_space : Lacks 32 line → HasNoStart
  no_start_space lacks start count is same = has_separator 32 (start_word start) (decimal count) (subst (Lacks 32) (same ∙ start_is start (decimal count)) lacks)

  module _ (word number : List ℕ) (cut : IsSplitAt 32 line word number) where
    start_parts : (start : Start) (count : ℕ) → line ≡ start_text start ++ decimal count → (word ≡ start_word start) × (number ≡ decimal count)
    start_parts start count same = one_cut 32 word (start_word start) number (decimal count) cut.lacks (lacks-start start) (sym cut.whole ∙ same ∙ start_is start (decimal count))

    pub no_count : ((n : ℕ) → n ≤ MOST_LINES → number ≢ decimal n) → HasNoStart
    no_count misspelt start count is same = misspelt count (most_of start count is) (start_parts start count same).1

    module _ (count : ℕ) (small : count ≤ MOST_LINES) (spelled : number ≡ decimal count) where
      pub no_start : word ≢ codes "anew" → (word ≡ codes "all" → count ≡ 0) → HasNoStart
      no_start not_anew none Current other is same =
          let at = start_parts Current other same in
          let numbers : count ≡ other = decimal_injective count other (omega arith) (omega (arith, is.1)) (sym spelled ∙ at.1) in
          omega (arith, none at.0, is.0)
      no_start not_anew none Empty other is same = not_anew (start_parts Empty other same).0

-- ---- the first line of a block

pub not_prefix_start : (v count : ℕ) (rest more : List ℕ) (start : Start) → version_prefix (Some v) ++ rest ≡ start_text start ++ more → ⊥
not_prefix_start v count rest more Current same = differ 1 same refl
not_prefix_start v count rest more Empty same = differ 1 same refl

lacks-prefix : (version : Option ℕ) → Lacks 10 (version_prefix version)
lacks-prefix None = λ k inside. absurd (omega arith)
lacks-prefix (Some v) = lacks-append 10 (codes "at ") (decimal v ++ codes " ") (lacks-test 10 (codes "at ") refl) (lacks-append 10 (decimal v) (codes " ") (lacks-decimal 10 v (inl (omega arith))) (lacks-test 10 (codes " ") refl))

lacks-start_text : (start : Start) → Lacks 10 (start_text start)
lacks-start_text Current = lacks-test 10 (codes "all ") refl
lacks-start_text Empty = lacks-test 10 (codes "anew ") refl

pub lacks-head : (head : Head) → Lacks 10 (head_text head)
lacks-head head =
    lacks-append 10 (version_prefix head.version) (start_text head.start ++ decimal head.count) (lacks-prefix head.version)
    (lacks-append 10 (start_text head.start) (decimal head.count) (lacks-start_text head.start) (lacks-decimal 10 head.count (inl (omega arith))))

-- a line that begins with one
pub no_head_version : (line rest : List ℕ) (v : ℕ) → v ≤ LAST_NUMBER → line ≡ version_prefix (Some v) ++ rest → HasNoStart rest → (head : Head) → IsHead head → line ≢ head_text head
no_head_version line rest v small whole no_start head is same = by_version head.version (sym whole ∙ same) is.version
  where
    by_version : (version : Option ℕ) → version_prefix (Some v) ++ rest ≡ version_prefix version ++ (start_text head.start ++ decimal head.count) → IfSome version (λ w. w ≤ LAST_NUMBER) → ⊥
    by_version None same also = not_prefix_start v 0 rest (decimal head.count) head.start same
    by_version (Some w) same also = no_start head.start head.count is.count (prefix_parts v w rest (start_text head.start ++ decimal head.count) small also same).1

module _ (text line rest : List ℕ) (whole : text ≡ line ++ rest) (lacks : Lacks 10 line) (ends : EndsLine rest) where
  pub first_line : (head : Head) (more : List ℕ) → HasHead text head more → (line ≡ head_text head) × (rest ≡ more)
  first_line head more has = line_cut line (head_text head) rest more lacks (lacks-head head) ends has.ends_line (sym whole ∙ has.whole)

  pub no_head : ((head : Head) → IsHead head → line ≢ head_text head) → HasNoHead text
  no_head none head more has = none head has.is_head (first_line head more has).0

  pub has_head : (head : Head) → IsHead head → line ≡ head_text head → HasHead text head rest
  has_head head is same = record { is_head = is; whole = whole ∙ ap (λ (l : List ℕ). l ++ rest) same; ends_line = ends }
