-- A text has one meaning in each form.
use Rattle.std.proofs.Common.{◌≡◌, ◌∙◌, ◌^◌, ◌<◌, ◌⊎◌, Err, IfErr, IsOk, List, Ok, Result, [], ap, arith, decimal, inl, inr, length, refl, subst, sym, ◌∷◌, ℕ}
use Rattle.std.proofs.lemmas.Fmt.{decimal_injective}
use Rattle.bpf_formats.specs.declared.fault.FormatFault.{FormatFault}
use Rattle.bpf_formats.specs.declared.fault.FormatFault.TheVariants.{Count, OutOfMemory, Syntax}
use Rattle.bpf_formats.specs.Ddd.{IsDdd, SpellsFields}
use Rattle.bpf_formats.specs.Fault.{HasOneMeaning, HasWrongCount, IsFaultOfDdd, IsFaultOfHex, IsFirstOfDdd}
use Rattle.bpf_formats.specs.Hex.{IsHex, SpellsDigits}
use Rattle.bpf_formats.specs.Item.{AreWords, items_of}
use Rattle.bpf_formats.proofs.DigitLemmas as digits
use Rattle.bpf_formats.proofs.FieldLemmas as fields
use Rattle.bpf_formats.proofs.ItemLemmas.{are_words-unique, first_out_of_form-unique, none_out_of_form}

-- ---- decimal

same_words : (text : List ℕ) (first other : List ℕ) (items rest : List (List ℕ)) (a b : List ℕ) → items_of text ≡ first ∷ items → items_of text ≡ other ∷ rest → AreWords SpellsFields items a → AreWords SpellsFields rest b → a ≡ b
same_words text first other items rest a b cut other_cut are others =
    let same : items ≡ rest = cc in
    are_words-unique SpellsFields fields.one_word items a b are (subst (λ its. AreWords SpellsFields its b) (sym same) others)

same_count : (text : List ℕ) (n m : ℕ) (items rest : List (List ℕ)) → items_of text ≡ decimal n ∷ items → items_of text ≡ decimal m ∷ rest → n < 2 ^ 32 → m < 2 ^ 32 → n ≡ m
same_count text n m items rest cut other_cut n_fits m_fits =
    let same : decimal n ≡ decimal m = cc in decimal_injective n m (omega arith) (omega arith) same

first_of_ddd-unique : (items : List (List ℕ)) (a b : ℕ) → IsFirstOfDdd items a → IsFirstOfDdd items b → a ≡ b
first_of_ddd-unique [] a b first second = absurd first
first_of_ddd-unique (item ∷ items) a b (inl first) (inl second) = first.0 ∙ sym second.0
first_of_ddd-unique (item ∷ items) a b (inl first) (inr second) = absurd (first.1 second.0.0 second.0.1)
first_of_ddd-unique (item ∷ items) a b (inr first) (inl second) = absurd (second.1 first.0.0 first.0.1)
first_of_ddd-unique (item ∷ items) a b (inr first) (inr second) =
    first_out_of_form-unique SpellsFields items 2 a b first.1 second.1

no_first : (n line : ℕ) (items : List (List ℕ)) (words : List ℕ) → n < 2 ^ 32 → AreWords SpellsFields items words → IsFirstOfDdd (decimal n ∷ items) line → ⊥
no_first n line items words fits are (inl out) = out.1 n (fits, refl)
no_first n line items words fits are (inr out) = none_out_of_form SpellsFields items words 2 line are out.1

ddd-one_value : (text a b : List ℕ) → IsDdd text a → IsDdd text b → a ≡ b
ddd-one_value text a b p q =
    same_words text (decimal (length a)) (decimal (length b)) p.items q.items a b p.cut q.cut p.are_words q.are_words

not_first_and_count : (text : List ℕ) (line : ℕ) → IsFirstOfDdd (items_of text) line → HasWrongCount text → ⊥
not_first_and_count text line first wrong =
    no_first wrong.count line wrong.items wrong.words wrong.fits wrong.are_words (subst (λ items. IsFirstOfDdd items line) wrong.cut first)

ddd-one_fault : (text : List ℕ) (a b : FormatFault) → IsFaultOfDdd text a → IsFaultOfDdd text b → a ≡ b
ddd-one_fault text (Syntax a) (Syntax b) p q = ap (λ line. Syntax line) (first_of_ddd-unique (items_of text) a b p q)
ddd-one_fault text (Syntax a) Count p q = absurd (not_first_and_count text a p q)
ddd-one_fault text (Syntax a) OutOfMemory p q = absurd q
ddd-one_fault text Count (Syntax b) p q = absurd (not_first_and_count text b q p)
ddd-one_fault text Count Count p q = refl
ddd-one_fault text Count OutOfMemory p q = absurd q
ddd-one_fault text OutOfMemory b p q = absurd p

ddd-not_both : (text words : List ℕ) (fault : FormatFault) → IsDdd text words → IsFaultOfDdd text fault → ⊥
ddd-not_both text words (Syntax line) is first =
    no_first (length words) line is.items words is.count_fits is.are_words (subst (λ items. IsFirstOfDdd items line) is.cut first)
ddd-not_both text words Count is wrong =
    let count = same_count text (length words) wrong.count is.items wrong.items is.cut wrong.cut is.count_fits wrong.fits in
    let same = same_words text (decimal (length words)) (decimal wrong.count) is.items wrong.items words wrong.words is.cut wrong.cut is.are_words wrong.are_words in
    wrong.wrong (sym count ∙ ap length same)
ddd-not_both text words OutOfMemory is fault = fault

pub ddd_meaning : HasOneMeaning IsDdd IsFaultOfDdd
ddd_meaning = record { one_value = ddd-one_value; one_fault = ddd-one_fault; not_both = ddd-not_both }

-- ---- hexadecimal

hex-one_fault : (text : List ℕ) (a b : FormatFault) → IsFaultOfHex text a → IsFaultOfHex text b → a ≡ b
hex-one_fault text (Syntax a) (Syntax b) p q =
    ap (λ line. Syntax line) (first_out_of_form-unique SpellsDigits (items_of text) 1 a b p q)
hex-one_fault text (Syntax a) Count p q = absurd q
hex-one_fault text (Syntax a) OutOfMemory p q = absurd q
hex-one_fault text Count b p q = absurd p
hex-one_fault text OutOfMemory b p q = absurd p

hex-not_both : (text words : List ℕ) (fault : FormatFault) → IsHex text words → IsFaultOfHex text fault → ⊥
hex-not_both text words (Syntax line) is out = none_out_of_form SpellsDigits (items_of text) words 1 line is out
hex-not_both text words Count is fault = fault
hex-not_both text words OutOfMemory is fault = fault

pub hex_meaning : HasOneMeaning IsHex IsFaultOfHex
hex_meaning = record {
  one_value = λ text a b. are_words-unique SpellsDigits digits.one_word (items_of text) a b;
  one_fault = hex-one_fault;
  not_both = hex-not_both;
}

-- ---- what a call answers

-- no text in the form is refused, but where memory is
pub refuses_none : {A : Type 0} (Is : List ℕ → List ℕ → Type 0) (IsFault : List ℕ → FormatFault → Type 0) (text : List ℕ) (r : Result A FormatFault) → HasOneMeaning Is IsFault → IfErr r (λ fault. (fault ≡ OutOfMemory) ⊎ IsFault text fault) → (words : List ℕ) → Is text words → IsOk r ⊎ (r ≡ Err OutOfMemory)
refuses_none Is IsFault text (Ok it) one fault words is = inl refl
refuses_none Is IsFault text (Err it) one (inl memory) words is = inr (ap (λ f. Err f) memory)
refuses_none Is IsFault text (Err it) one (inr fault) words is = absurd (one.not_both text words it is fault)
