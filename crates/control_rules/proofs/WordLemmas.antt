-- The words of programs have 64 bits.
use Rattle.std.proofs.Common.{◌≡◌, ◌==◌, ◌<◌, ◌^◌, ◌∷◌, Bool, List, Some, [], ap, arith, cond, drop, eqb-true, false, get_or, length, refl, replicate, subst, suc, take, true, zero, ◌++◌, ◌-◌, ℕ}
use Rattle.std.specs.Prelude.{nat_lt}
use Rattle.std.specs.List.{AllZip, list_all}
use Rattle.bpf_formats.specs.Hex.{SpellsDigits}
use Rattle.std.specs.Char.{digit_value}
use Rattle.std.specs.Str.Parse.{AllDigits}
use Rattle.std.proofs.lemmas.Bool.{and_parts, ltb-true}
use Rattle.bpf_insn.specs.Table.{Entry, Uses, table, uses_in, uses_of}
use Rattle.bpf_insn.specs.Word.{IsInstructionWord}
use Rattle.bpf_verify.specs.Accepted.{IsAccepted}
use Rattle.bpf_asm.proofs.ProgramLemmas.{instruction_word_at}
use Rattle.bpf_formats.proofs.PrintLemmas.{Fit}
use Rattle.control_line.specs.Reading.{window}
use Rattle.control_line.specs.declared.reply.TheConstants.{WINDOW}
use Rattle.std.proofs.lemmas.List.{length-drop}
use Rattle.ipv4_fields.specs.Cut.{Lacks}
use Rattle.ipv4_fields.proofs.TextLemmas.{lacks-cons}

abbrev is_small : Entry → Bool
is_small entry = nat_lt entry.code 65536

small_step : (b : Bool) (entry : Entry) (code : ℕ) (uses : Uses) (rest : _) → (entry.code == code) ≡ b → is_small entry ≡ true →
    (rest ≡ Some uses → code < 65536) → cond b (Some entry.uses) rest ≡ Some uses → code < 65536
small_step true entry code uses rest same small later found = subst (λ n. n < 65536) (eqb-true entry.code code same) (ltb-true entry.code 65536 small)
small_step false entry code uses rest same small later found = later found

small_in : (entries : List Entry) (code : ℕ) (uses : Uses) → list_all is_small entries ≡ true → uses_in entries code ≡ Some uses → code < 65536
small_in [] code uses all found = cc
small_in (entry ∷ entries) code uses all found =
    let both = and_parts (is_small entry) (list_all is_small entries) all in
    small_step (entry.code == code) entry code uses (uses_in entries code) refl both.0 (small_in entries code uses both.1) found

small_code : (code : ℕ) (uses : Uses) → uses_of code ≡ Some uses → code < 65536
unfolding uses_of table
small_code code uses found = small_in table code uses refl found

small_word : (w : ℕ) → IsInstructionWord w → w < 2 ^ 64
small_word w it =
    let code = small_code it.code it.uses it.in_table in
    let is = it.is_word in
    let jt = it.jt_fits in
    let jf = it.jf_fits in
    let k = it.k_fits in
    omega arith

fit_each : (words : List ℕ) → ((i : ℕ) → i < length words → get_or words i 0 < 2 ^ 64) → Fit words
fit_each [] known = tt
fit_each (w ∷ words) known = (known 0 (omega arith), fit_each words (λ i inside. known (suc i) (omega arith)))

pub accepted_fit : (words : List ℕ) → IsAccepted words → Fit words
accepted_fit words accepted = fit_each words (λ i inside. small_word (get_or words i 0) (instruction_word_at words i accepted inside))

-- a text of digits has no space
pub lacks_digits : (text : List ℕ) → AllDigits 16 text → Lacks 32 text
lacks_digits [] all = λ k inside. absurd (omega arith)
lacks_digits (b ∷ text) all = lacks-cons 32 b text (λ same. let small : digit_value 32 < 16 = subst (λ n. digit_value n < 16) same all.0 in omega arith) (lacks_digits text all.1)

-- ---- the words that a reply has

fit-take : (n : ℕ) (words : List ℕ) → Fit words → Fit (take n words)
fit-take zero words fit = tt
fit-take (suc n) [] fit = tt
fit-take (suc n) (w ∷ words) fit = (fit.0, fit-take n words fit.1)

fit-drop : (n : ℕ) (words : List ℕ) → Fit words → Fit (drop n words)
fit-drop zero words fit = fit
fit-drop (suc n) [] fit = tt
fit-drop (suc n) (w ∷ words) fit = fit-drop n words fit.1

pub fit-window : (words : List ℕ) (place : ℕ) → Fit words → Fit (take WINDOW (drop place words))
fit-window words place fit = fit-take WINDOW (drop place words) (fit-drop place words fit)

take-front : (n k : ℕ) (xs zs : List ℕ) → length xs ≡ k → take k (take n (xs ++ zs)) ≡ take n xs
take-front zero zero xs zs is = refl
take-front zero (suc k) xs zs is = refl
take-front (suc n) zero [] zs is = refl
take-front (suc n) zero (x ∷ xs) zs is = absurd (omega arith)
take-front (suc n) (suc k) [] zs is = absurd (omega arith)
take-front (suc n) (suc k) (x ∷ xs) zs is = ap (λ rest. x ∷ rest) (take-front n k xs zs (omega arith))

-- a reply has the words of the window that the program has
pub window_shown : (words : List ℕ) (place : ℕ) → take (length words - place) (window words place) ≡ take WINDOW (drop place words)
window_shown words place = take-front WINDOW (length words - place) (drop place words) (replicate WINDOW 0) (length-drop place words)

-- one field more
pub spelled_push : (fields : List (List ℕ)) (words : List ℕ) (field : List ℕ) (word : ℕ) → AllZip SpellsDigits fields words → SpellsDigits field word →
    AllZip SpellsDigits (fields ++ field ∷ []) (words ++ word ∷ [])
spelled_push [] [] field word all last = (last, tt)
spelled_push [] (w ∷ words) field word all last = absurd all
spelled_push (f ∷ fields) [] field word all last = absurd all
spelled_push (f ∷ fields) (w ∷ words) field word all last = (all.0, spelled_push fields words field word all.1 last)
