-- The first lines of blocks: they have no LF, they are short, and each has one count.
use Rattle.std.proofs.Common.{◌≡◌, ◌∙◌, ◌<◌, ◌≤◌, ◌^◌, ◌++◌, ◌∷◌, List, None, Option, Some, [], ap, append_assoc, arith, codes, decimal, inl, length, length-append, refl, subst, sym, ℕ}
use Rattle.std.specs.Prelude.{IfSome}
use Rattle.std.proofs.lemmas.Fmt.{decimal_injective, length-decimal-le}
use Rattle.versions.specs.declared.layout.TheConstants.{LAST_NUMBER}
use Rattle.ipv4_fields.specs.Cut.{Lacks}
use Rattle.ipv4_fields.proofs.TextLemmas.{has_separator, lacks-append, lacks-decimal, lacks-test}
use Rattle.control_line.specs.declared.TheConstants.{MOST_LINES}
use Rattle.control_line.specs.declared.head.Head.{Head}
use Rattle.control_line.specs.declared.head.Start.{Start}
use Rattle.control_line.specs.declared.head.Start.TheVariants.{Current, Empty}
use Rattle.control_line.specs.Block.{IsCountFor, IsHead, head_text, start_text, version_prefix}
use Rattle.serve_stream.proofs.HeadLemmas.{lacks-none}

-- ---- no LF

lacks-prefix : (version : Option ℕ) → Lacks 10 (version_prefix version)
lacks-prefix None = lacks-none 10
lacks-prefix (Some version) =
    lacks-append 10 (codes "at ") (decimal version ++ codes " ") (lacks-test 10 (codes "at ") refl)
    (lacks-append 10 (decimal version) (codes " ") (lacks-decimal 10 version (inl (omega arith))) (lacks-test 10 (codes " ") refl))

lacks-start : (start : Start) → Lacks 10 (start_text start)
lacks-start Current = lacks-test 10 (codes "all ") refl
lacks-start Empty = lacks-test 10 (codes "anew ") refl

pub lacks-head : (head : Head) → Lacks 10 (head_text head)
lacks-head head =
    lacks-append 10 (version_prefix head.version) (start_text head.start ++ decimal head.count) (lacks-prefix head.version)
    (lacks-append 10 (start_text head.start) (decimal head.count) (lacks-start head.start) (lacks-decimal 10 head.count (inl (omega arith))))

-- ---- few bytes

few_digits : (n : ℕ) → n < 2 ^ 64 → length (decimal n) ≤ 20
few_digits n small = length-decimal-le 20 n (omega arith) (omega arith) small

short-prefix : (version : Option ℕ) → IfSome version (λ v. v ≤ LAST_NUMBER) → length (version_prefix version) ≤ 24
short-prefix None within = omega arith
short-prefix (Some version) within =
    let few = few_digits version (omega (arith, within)) in
    omega (arith, few, length-append (codes "at ") (decimal version ++ codes " "), length-append (decimal version) (codes " "))

short-start : (start : Start) → length (start_text start) ≤ 5
short-start Current = omega arith
short-start Empty = omega arith

count_within : (start : Start) (count : ℕ) → IsCountFor start count → count ≤ MOST_LINES
count_within Current count both = both.1
count_within Empty count within = within

pub short_head : (head : Head) → IsHead head → length (head_text head) ≤ 64
short_head head is =
    let within = count_within head.start head.count is.count in
    let few = few_digits head.count (omega (arith, within)) in
    let front = short-prefix head.version is.version in
    let start = short-start head.start in
    omega (arith, few, front, start, length-append (version_prefix head.version) (start_text head.start ++ decimal head.count), length-append (start_text head.start) (decimal head.count))

-- ---- one count

-- a text is cut at its last separator in one way
last_cut : (s : ℕ) (a c b d : List ℕ) → Lacks s b → Lacks s d → a ++ s ∷ b ≡ c ++ s ∷ d → b ≡ d
last_cut s [] [] b d lb ld e = cc e
last_cut s [] (y ∷ c) b d lb ld e = let rest : b ≡ c ++ s ∷ d = cc e in absurd (has_separator s c d (subst (Lacks s) rest lb))
last_cut s (x ∷ a) [] b d lb ld e = let rest : d ≡ a ++ s ∷ b = cc e in absurd (has_separator s a b (subst (Lacks s) (rest) ld))
last_cut s (x ∷ a) (y ∷ c) b d lb ld e = let rest : a ++ s ∷ b ≡ c ++ s ∷ d = cc e in last_cut s a c b d lb ld rest

abbrev start_word : Start → List ℕ
start_word Current = codes "all"
start_word Empty = codes "anew"

start_cut : (start : Start) (count : List ℕ) → start_text start ++ count ≡ start_word start ++ 32 ∷ count
start_cut Current count = refl
start_cut Empty count = refl

head_cut : (head : Head) → head_text head ≡ (version_prefix head.version ++ start_word head.start) ++ 32 ∷ decimal head.count
head_cut head =
    ap (λ rest. version_prefix head.version ++ rest) (start_cut head.start (decimal head.count))
    ∙ sym (append_assoc (version_prefix head.version) (start_word head.start) (32 ∷ decimal head.count))

pub same_count : (head other : Head) → IsHead head → IsHead other → head_text head ≡ head_text other → head.count ≡ other.count
same_count head other is also same =
    let within = count_within head.start head.count is.count in
    let within' = count_within other.start other.count also.count in
    decimal_injective head.count other.count (omega (arith, within)) (omega (arith, within'))
    (last_cut 32 (version_prefix head.version ++ start_word head.start) (version_prefix other.version ++ start_word other.start) (decimal head.count) (decimal other.count)
    (lacks-decimal 32 head.count (inl (omega arith))) (lacks-decimal 32 other.count (inl (omega arith))) (sym (head_cut head) ∙ (same ∙ head_cut other)))
