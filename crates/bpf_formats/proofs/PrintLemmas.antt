-- What is printed of words is read back.
use Rattle.std.proofs.Common.{◌≡◌, ◌≢◌, ◌∙◌, ◌^◌, ◌<◌, ◌++◌, List, [], ap, append_assoc, arith, decimal, get_or, length, refl, subst, suc, sym, ◌∷◌, ℕ}
use Rattle.std.specs.List.{flat_map}
use Rattle.std.proofs.lemmas.Fmt.{decimal_is_IsNumeral, decimal_nonempty}
use Rattle.bpf_insn.proofs.WordLemmas.{word-split}
use Rattle.bpf_insn.specs.Word.{code_of, constant_of, false_jump_of, true_jump_of, word}
use Rattle.bpf_formats.specs.Ddd.{IsDdd, SpellsFields, ddd_line, ddd_text, fields_text}
use Rattle.bpf_formats.specs.Hex.{IsHex, SpellsDigits, hex_digits, hex_text}
use Rattle.bpf_formats.specs.Item.{AreWords, items_of}
use Rattle.bpf_formats.proofs.CutLemmas.{StaysInItem, items_of-line, stays-append, stays-digits}
use Rattle.bpf_formats.proofs.DigitLemmas.{hex_spells}
use Rattle.bpf_formats.proofs.ItemLemmas.{are_words-cons}

-- each word has 64 bits
abbrev pub Fit : List ℕ → Type 0
Fit [] = Unit {0}
Fit (it ∷ words) = (it < 2 ^ 64) × Fit words

pub fit-from_each : (words : List ℕ) → ((k : ℕ) → get_or words k 0 < 2 ^ 64) → Fit words
fit-from_each [] each = tt
fit-from_each (it ∷ words) each = (each 0, fit-from_each words (λ k. each (suc k)))

filled : (first second : List ℕ) → 0 < length first → first ++ second ≢ []
filled [] second some = absurd (omega arith)
filled (b ∷ first) second some = λ empty. cc

-- a word is written on a line of its own, without the LF
pub record IsWritten (Spells : List ℕ → ℕ → Type 0) (item : List ℕ) (it : ℕ) : Type 0 where
  pub stays : StaysInItem item
  pub some : item ≢ []
  pub spelled : Spells item it

module _ (Spells : List ℕ → ℕ → Type 0) (item : ℕ → List ℕ) (written : (it : ℕ) → it < 2 ^ 64 → IsWritten Spells (item it) it) where
  pub lines_are_words : (words : List ℕ) → Fit words → AreWords Spells (items_of (flat_map (λ it. item it ++ 10 ∷ []) words)) words
  lines_are_words [] fit = tt
  lines_are_words (it ∷ words) fit =
      let line = written it fit.0 in
      let rest = flat_map (λ w. item w ++ 10 ∷ []) words in
      let cut : items_of ((item it ++ 10 ∷ []) ++ rest) ≡ item it ∷ items_of rest =
      ap items_of (append_assoc (item it) (10 ∷ []) rest) ∙ items_of-line (item it) rest line.stays in
      subst (λ items. AreWords Spells items (it ∷ words)) (sym cut) (are_words-cons Spells (item it) it (items_of rest) words line.some line.spelled (lines_are_words words fit.1))

-- ---- decimal

decimal_stays : (n : ℕ) → n < 2 ^ 64 → StaysInItem (decimal n)
decimal_stays n small = stays-digits 10 (decimal n) (omega arith) (decimal_is_IsNumeral n small).0.1

-- a number, a space and more
field_stays : (n : ℕ) (rest : List ℕ) → n < 2 ^ 64 → StaysInItem rest → StaysInItem (decimal n ++ 32 ∷ rest)
field_stays n rest small stays = stays-append (decimal n) (32 ∷ rest) (decimal_stays n small) (refl, stays)

fields_written : (it : ℕ) → it < 2 ^ 64 → IsWritten SpellsFields (fields_text (code_of it) (true_jump_of it) (false_jump_of it) (constant_of it)) it
fields_written it small =
    let code = code_of it in
    let jt = true_jump_of it in
    let jf = false_jump_of it in
    let k = constant_of it in
    let last = field_stays jf (decimal k) (omega arith) (decimal_stays k (omega arith)) in
    let later = field_stays jt (decimal jf ++ 32 ∷ decimal k) (omega arith) last in
    record {
      stays = field_stays code (decimal jt ++ 32 ∷ (decimal jf ++ 32 ∷ decimal k)) (omega arith) later;
      some = filled (decimal code) (32 ∷ (decimal jt ++ 32 ∷ (decimal jf ++ 32 ∷ decimal k))) (decimal_nonempty code (omega arith));
      spelled = record {
        code = code;
        jt = jt;
        jf = jf;
        k = k;
        code_fits = omega arith;
        jt_fits = omega arith;
        jf_fits = omega arith;
        k_fits = omega arith;
        is_item = refl;
        is_word = sym (word-split it);
      };
    }

pub ddd_back : (words : List ℕ) → length words < 2 ^ 32 → Fit words → IsDdd (ddd_text words) words
ddd_back words few fit =
    let lines = flat_map ddd_line words in
    record {
      items = items_of lines;
      cut = ap items_of (append_assoc (decimal (length words)) (10 ∷ []) lines) ∙ items_of-line (decimal (length words)) lines (decimal_stays (length words) (omega arith));
      count_fits = few;
      are_words = lines_are_words SpellsFields (λ it. fields_text (code_of it) (true_jump_of it) (false_jump_of it) (constant_of it)) fields_written words fit;
    }

-- ---- hexadecimal

digits_written : (it : ℕ) → it < 2 ^ 64 → IsWritten SpellsDigits (hex_digits 16 it) it
digits_written it small =
    let spelled = hex_spells it small in
    record {
      stays = stays-digits 16 (hex_digits 16 it) (omega arith) spelled.digits;
      some = λ empty. let none = ap length empty in absurd (omega (arith, spelled.sixteen));
      spelled = spelled;
    }

pub hex_back : (words : List ℕ) → Fit words → IsHex (hex_text words) words
hex_back words fit = lines_are_words SpellsDigits (λ it. hex_digits 16 it) digits_written words fit
