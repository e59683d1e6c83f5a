-- Operands and instructions: what is read of a list of tokens is what is spelled there.
use Rattle.std.proofs.Common.{◌≡◌, ◌==◌, ◌∙◌, ◌++◌, ◌&&◌, Bool, List, None, Option, Some, [], ap, codes, option_and_then, cond, false, refl, subst, true, ◌∷◌, ℕ}
use Rattle.std.specs.Str.{bytes_eq}
use Rattle.std.proofs.lemmas.Bool.{and_parts, eqb-true}
use Rattle.std.proofs.lemmas.Option.{cond_some}
use Rattle.std.proofs.lemmas.Slice.Eq.{bytes_eq-Decides}
use Rattle.bpf_asm.specs.body.Reading.{Form, absolute_form, after_mark, after_number, after_word, bracket_in, cell_form, cell_or, closed_in, constant_form, form_in, header_form, header_in, indexed_form, indexed_or, marked_in, name_form, named_in, nothing, skip_form, ◌>>=◌}
use Rattle.bpf_asm.specs.Statement.{absolute, cell, constant, header, indexed}
use Rattle.bpf_asm.specs.Token.{Token, mark, number, stray, word}

-- the tokens of an operand
abbrev pub form_tokens : Form → List Token
form_tokens nothing = []
form_tokens (absolute_form k) = absolute k
form_tokens (indexed_form k) = indexed k
form_tokens (constant_form k) = constant k
form_tokens (cell_form k) = cell k
form_tokens (header_form k) = header k
form_tokens (skip_form k) = mark 43 ∷ number k ∷ []
form_tokens (name_form name) = word name ∷ []

-- an answer of a chain of tests comes from one of them
pub by_test : {A : Type 0} {P : Type 0} (test : Bool) (here later : Option A) (found : A) → (test ≡ true → here ≡ Some found → P) → (later ≡ Some found → P) → cond test here later ≡ Some found → P
by_test true here later found first others is = first refl is
by_test false here later found first others is = others is

pub by_name : {A : Type 0} {P : Type 0} (name expected : List ℕ) (here later : Option A) (found : A) → (name ≡ expected → here ≡ Some found → P) → (later ≡ Some found → P) → cond (bytes_eq name expected) here later ≡ Some found → P
by_name name expected here later found first others is =
    by_test (bytes_eq name expected) here later found (λ same. first ((bytes_eq-Decides name expected).0 same)) others is

pub nothing_found : {A : Type 0} {P : Type 0} (found : A) → None ≡ Some found → P
nothing_found found is = absurd cc

-- ---- what follows a token

pub after_mark_is : (b : ℕ) (tokens rest : List Token) → after_mark b tokens ≡ Some rest → tokens ≡ mark b ∷ rest
unfolding after_mark
after_mark_is b [] rest found = nothing_found rest found
after_mark_is b (word name ∷ tokens) rest found = nothing_found rest found
after_mark_is b (number n ∷ tokens) rest found = nothing_found rest found
after_mark_is b (stray ∷ tokens) rest found = nothing_found rest found
after_mark_is b (mark c ∷ tokens) rest found =
    let both = cond_some (c == b) tokens rest found in
    let same = eqb-true c b both.0 in
    let left = both.1 in
    cc

pub after_word_is : (name : List ℕ) (tokens rest : List Token) → after_word name tokens ≡ Some rest → tokens ≡ word name ∷ rest
unfolding after_word
after_word_is name [] rest found = nothing_found rest found
after_word_is name (mark b ∷ tokens) rest found = nothing_found rest found
after_word_is name (number n ∷ tokens) rest found = nothing_found rest found
after_word_is name (stray ∷ tokens) rest found = nothing_found rest found
after_word_is name (word other ∷ tokens) rest found =
    let both = cond_some (bytes_eq other name) tokens rest found in
    let same = (bytes_eq-Decides other name).0 both.0 in
    let left = both.1 in
    cc

pub after_number_is : (tokens : List Token) (found : ℕ × List Token) → after_number tokens ≡ Some found → tokens ≡ number found.0 ∷ found.1
unfolding after_number
after_number_is [] found is = nothing_found found is
after_number_is (word name ∷ tokens) found is = nothing_found found is
after_number_is (mark b ∷ tokens) found is = nothing_found found is
after_number_is (stray ∷ tokens) found is = nothing_found found is
after_number_is (number n ∷ tokens) found is = let same : (n, tokens) ≡ found = cc in ap (λ it. number it.0 ∷ it.1) same

pub bind : {A B P : Type 0} (first : Option A) (f : A → Option B) (found : B) → option_and_then f first ≡ Some found → ((x : A) → first ≡ Some x → f x ≡ Some found → P) → P
bind None f found is later = absurd cc
bind (Some x) f found is later = later x refl is

pub closed_is : (tokens : List Token) (found : ℕ × List Token) → closed_in tokens ≡ Some found → tokens ≡ number found.0 ∷ mark 93 ∷ found.1
unfolding closed_in
closed_is tokens found is =
    bind (after_number tokens) _ found is (λ k first closing.
    bind (after_mark 93 k.1) _ found closing (λ rest second same.
    let pair : (k.0, rest) ≡ found = cc in
    subst (λ it. tokens ≡ number it.0 ∷ mark 93 ∷ it.1) pair (after_number_is tokens k first ∙ ap (λ left. number k.0 ∷ left) (after_mark_is 93 k.1 rest second))))

-- ---- operands

-- what was found stands at the front of the tokens
abbrev pub StandsIn : List Token → Form × List Token → Type 0
StandsIn tokens found = tokens ≡ form_tokens found.0 ++ found.1

-- from the parts that were read
stands : (tokens rest : List Token) (form : Form) (found : Form × List Token) → ◌≡◌ {A = Option (Form × List Token)} (Some (form, rest)) (Some found) → tokens ≡ form_tokens form ++ rest → StandsIn tokens found
stands tokens rest form found same is = let pair : (form, rest) ≡ found = cc in subst (StandsIn tokens) pair is

bracket_by : (tokens : List Token) (found : Form × List Token) (x : Option (List Token)) → after_word (codes "x") tokens ≡ x → indexed_or tokens x ≡ Some found → StandsIn (mark 91 ∷ tokens) found
bracket_by tokens found None x is =
    bind (closed_in tokens) _ found is (λ k first same.
    stands (mark 91 ∷ tokens) k.1 (absolute_form k.0) found same (ap (λ left. mark 91 ∷ left) (closed_is tokens k first)))
bracket_by tokens found (Some behind) x is =
    bind (after_mark 43 behind >>= closed_in) _ found is (λ k both same.
    bind (after_mark 43 behind) _ k both (λ rest plus first.
    stands (mark 91 ∷ tokens) k.1 (indexed_form k.0) found same (
    ap (λ left. mark 91 ∷ left) (after_word_is (codes "x") tokens behind x)
    ∙ ap (λ left. mark 91 ∷ word (codes "x") ∷ left) (after_mark_is 43 behind rest plus)
    ∙ ap (λ left. mark 91 ∷ word (codes "x") ∷ mark 43 ∷ left) (closed_is rest k first)
    )))

pub bracket_is : (tokens : List Token) (found : Form × List Token) → bracket_in tokens ≡ Some found → StandsIn (mark 91 ∷ tokens) found
unfolding bracket_in
bracket_is tokens found is = bracket_by tokens found (after_word (codes "x") tokens) refl is

pub header_is : (four : ℕ) (tokens : List Token) (found : Form × List Token) → header_in four tokens ≡ Some found → StandsIn (number four ∷ tokens) found
unfolding header_in
header_is four tokens found is =
    bind (after_mark 42 tokens) _ found is (λ star at_star is_1.
    bind (after_mark 40 star) _ found is_1 (λ open_ at_open is_2.
    bind (after_mark 91 open_) _ found is_2 (λ bracket at_bracket is_3.
    bind (closed_in bracket) _ found is_3 (λ k at_k is_4.
    bind (after_mark 38 k.1) _ found is_4 (λ masked at_and is_5.
    bind (after_number masked) _ found is_5 (λ mask at_mask is_6.
    bind (after_mark 41 mask.1) _ found is_6 (λ rest at_close is_7.
    let last = cond_some ((four == 4) && (mask.0 == 15)) (header_form k.0, rest) found is_7 in
    let numbers = and_parts (four == 4) (mask.0 == 15) last.0 in
    stands (number four ∷ tokens) rest (header_form k.0) found (ap (λ it. Some it) last.1) (
    ap (λ it. number it ∷ tokens) (eqb-true four 4 numbers.0)
    ∙ ap (λ left. number 4 ∷ left) (after_mark_is 42 tokens star at_star)
    ∙ ap (λ left. number 4 ∷ mark 42 ∷ left) (after_mark_is 40 star open_ at_open)
    ∙ ap (λ left. number 4 ∷ mark 42 ∷ mark 40 ∷ left) (after_mark_is 91 open_ bracket at_bracket)
    ∙ ap (λ left. number 4 ∷ mark 42 ∷ mark 40 ∷ mark 91 ∷ left) (closed_is bracket k at_k)
    ∙ ap (λ left. number 4 ∷ mark 42 ∷ mark 40 ∷ mark 91 ∷ number k.0 ∷ mark 93 ∷ left) (after_mark_is 38 k.1 masked at_and)
    ∙ ap (λ left. number 4 ∷ mark 42 ∷ mark 40 ∷ mark 91 ∷ number k.0 ∷ mark 93 ∷ mark 38 ∷ left) (after_number_is masked mask at_mask)
    ∙ ap (λ it. number 4 ∷ mark 42 ∷ mark 40 ∷ mark 91 ∷ number k.0 ∷ mark 93 ∷ mark 38 ∷ number it ∷ mask.1) (eqb-true mask.0 15 numbers.1)
    ∙ ap (λ left. number 4 ∷ mark 42 ∷ mark 40 ∷ mark 91 ∷ number k.0 ∷ mark 93 ∷ mark 38 ∷ number 15 ∷ left) (after_mark_is 41 mask.1 rest at_close)
    ))))))))

named_by : (name : List ℕ) (tokens : List Token) (found : Form × List Token) (open_ : Option (List Token)) → after_mark 91 tokens ≡ open_ → cell_or name tokens open_ ≡ Some found → StandsIn (word name ∷ tokens) found
named_by name tokens found None at_open is = stands (word name ∷ tokens) tokens (name_form name) found is refl
named_by name tokens found (Some behind) at_open is =
    by_name name (codes "M") _ None found (λ same closing.
    bind (closed_in behind) _ found closing (λ k first last.
    stands (word name ∷ tokens) k.1 (cell_form k.0) found last (
    ap (λ it. word it ∷ tokens) same
    ∙ ap (λ left. word (codes "M") ∷ left) (after_mark_is 91 tokens behind at_open)
    ∙ ap (λ left. word (codes "M") ∷ mark 91 ∷ left) (closed_is behind k first)
    ))) (nothing_found found) is

pub named_is : (name : List ℕ) (tokens : List Token) (found : Form × List Token) → named_in name tokens ≡ Some found → StandsIn (word name ∷ tokens) found
unfolding named_in
named_is name tokens found is = named_by name tokens found (after_mark 91 tokens) refl is

pub marked_is : (b : ℕ) (tokens : List Token) (found : Form × List Token) → marked_in b tokens ≡ Some found → StandsIn (mark b ∷ tokens) found
unfolding marked_in
marked_is b tokens found is =
    by_test (b == 91) (bracket_in tokens) _ found (λ open_ bracket. rw (eqb-true b 91 open_) (bracket_is tokens found bracket)) (λ others.
    bind (after_number tokens) _ found others (λ k first tests.
    by_test (b == 35) _ _ found (λ hash same. stands (mark b ∷ tokens) k.1 (constant_form k.0) found same (ap (λ it. mark it ∷ tokens) (eqb-true b 35 hash) ∙ ap (λ left. mark 35 ∷ left) (after_number_is tokens k first))) (λ later.
    by_test (b == 43) _ _ found (λ plus same. stands (mark b ∷ tokens) k.1 (skip_form k.0) found same (ap (λ it. mark it ∷ tokens) (eqb-true b 43 plus) ∙ ap (λ left. mark 43 ∷ left) (after_number_is tokens k first))) (nothing_found found) later) tests)) is

pub form_is : (tokens : List Token) (found : Form × List Token) → form_in tokens ≡ Some found → StandsIn tokens found
unfolding form_in
form_is [] found is = stands [] [] nothing found is refl
form_is (word name ∷ tokens) found is = named_is name tokens found is
form_is (number n ∷ tokens) found is = header_is n tokens found is
form_is (mark b ∷ tokens) found is = marked_is b tokens found is
form_is (stray ∷ tokens) found is = nothing_found found is
