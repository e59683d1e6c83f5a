-- The lines of a text: what is read of them is what they spell, and the fault of the first that spells nothing.
use Rattle.std.proofs.Common.{◌≡◌, ◌∙◌, ◌+◌, ◌++◌, List, None, Option, Some, [], ap, arith, length, map, refl, unwrap_or, ◌∷◌, ℕ}
use Rattle.std.specs.List.{AllZip}
use Rattle.bpf_asm.specs.declared.fault.AsmFault.{AsmFault}
use Rattle.bpf_asm.specs.declared.fault.AsmFault.TheVariants.{Syntax}
use Rattle.bpf_asm.proofs.ReadLemmas.{line_read}
use Rattle.bpf_asm.proofs.SpelledLemmas.{tokens_read, tokens_spelled}
use Rattle.bpf_asm.proofs.StatementLemmas.{line_is}
use Rattle.bpf_asm.specs.body.Reading.{form_fault, forms_fault, line, line_at, line_in, read_line, tokens_of}
use Rattle.bpf_asm.specs.Statement.{Line, Spells_line}
use Rattle.bpf_asm.specs.Target.{first_of}

-- ---- one line

pub line_spelled : (bytes : List ℕ) (found : Line) → read_line bytes ≡ Some found → Spells_line bytes found
unfolding read_line
line_spelled bytes found is =
    let parts = line_is (tokens_of bytes) found is in
    let read = line_read (tokens_of bytes) found.label found.statement parts in
    (tokens_of bytes, tokens_spelled bytes read.1, parts)

pub line_reads : (bytes : List ℕ) (found : Line) → Spells_line bytes found → read_line bytes ≡ Some found
unfolding read_line
line_reads bytes found (tokens, is_tokens, parts) =
    ap line_in (tokens_read tokens bytes is_tokens) ∙ (line_read tokens found.label found.statement parts).0

pub line_at-spelled : (bytes : List ℕ) (found : Line) → Spells_line bytes found → line_at bytes ≡ found
line_at-spelled bytes found spelled = ap (λ it. unwrap_or it (line None None)) (line_reads bytes found spelled)

-- ---- all lines

abbrev pub AreSpelled : List (List ℕ) → List Line → Type 0
AreSpelled lines found = AllZip Spells_line lines found

pub lines_unique : (lines : List (List ℕ)) (found : List Line) → AreSpelled lines found → found ≡ map line_at lines
lines_unique [] [] spelled = refl
lines_unique [] (it ∷ found) spelled = absurd spelled
lines_unique (bytes ∷ lines) [] spelled = absurd spelled
lines_unique (bytes ∷ lines) (it ∷ found) spelled =
    let first = line_at-spelled bytes it spelled.0 in
    let later = lines_unique lines found spelled.1 in
    cc

pub forms_none : (n : ℕ) (lines : List (List ℕ)) (found : List Line) → AreSpelled lines found → forms_fault n lines ≡ None
forms_none n [] [] spelled = refl
forms_none n [] (it ∷ found) spelled = absurd spelled
forms_none n (bytes ∷ lines) [] spelled = absurd spelled
forms_none n (bytes ∷ lines) (it ∷ found) spelled =
    ap (λ first. first_of (form_fault n first) (forms_fault (n + 1) lines)) (line_reads bytes it spelled.0) ∙ forms_none (n + 1) lines found spelled.1

good_first : (n : ℕ) (bytes : List ℕ) (lines : List (List ℕ)) (first : Option Line) → read_line bytes ≡ first → (forms_fault (n + 1) lines ≡ None → AreSpelled lines (map line_at lines)) → first_of (form_fault n first) (forms_fault (n + 1) lines) ≡ None → AreSpelled (bytes ∷ lines) (map line_at (bytes ∷ lines))
good_first n bytes lines None is later none = cc
good_first n bytes lines (Some it) is later none =
    let at = ap (λ found. unwrap_or found (line None None)) is in
    (rw at (line_spelled bytes it is), later none)

pub forms_good : (n : ℕ) (lines : List (List ℕ)) → forms_fault n lines ≡ None → AreSpelled lines (map line_at lines)
forms_good n [] none = tt
forms_good n (bytes ∷ lines) none = good_first n bytes lines (read_line bytes) refl (forms_good (n + 1) lines) none

-- of lines from line n on, line m is the first in no form
pub record IsFirstFrom (n : ℕ) (lines : List (List ℕ)) (m : ℕ) : Type 0 where
  pub before : List (List ℕ)
  pub bad : List ℕ
  pub after : List (List ℕ)
  pub good : List Line
  pub cut : lines ≡ before ++ bad ∷ after
  pub before_in_form : AreSpelled before good
  pub in_no_form : (it : Line) → Spells_line bad it → ⊥
  pub number : m ≡ length before + n

-- and this is its fault
pub record FoundFrom (n : ℕ) (lines : List (List ℕ)) (fault : AsmFault) : Type 0 where
  pub m : ℕ
  pub is : fault ≡ Syntax m
  pub first : IsFirstFrom n lines m

bad_first : (n : ℕ) (bytes : List ℕ) (lines : List (List ℕ)) (fault : AsmFault) (first : Option Line) → read_line bytes ≡ first → (forms_fault (n + 1) lines ≡ Some fault → FoundFrom (n + 1) lines fault) → first_of (form_fault n first) (forms_fault (n + 1) lines) ≡ Some fault → FoundFrom n (bytes ∷ lines) fault
bad_first n bytes lines fault None is later some = record {
  m = n;
  is = cc;
  first = record {
    before = [];
    bad = bytes;
    after = lines;
    good = [];
    cut = refl;
    before_in_form = tt;
    in_no_form = λ it spelled. let read = line_reads bytes it spelled in absurd cc;
    number = omega arith;
  };
}
bad_first n bytes lines fault (Some it) is later some =
    let found = later some in record {
      m = found.m;
      is = found.is;
      first = record {
        before = bytes ∷ found.first.before;
        bad = found.first.bad;
        after = found.first.after;
        good = it ∷ found.first.good;
        cut = ap (λ left. bytes ∷ left) found.first.cut;
        before_in_form = (line_spelled bytes it is, found.first.before_in_form);
        in_no_form = found.first.in_no_form;
        number = omega (arith, found.first.number);
      };
    }

pub forms_bad : (n : ℕ) (lines : List (List ℕ)) (fault : AsmFault) → forms_fault n lines ≡ Some fault → FoundFrom n lines fault
forms_bad n [] fault some = absurd cc
forms_bad n (bytes ∷ lines) fault some = bad_first n bytes lines fault (read_line bytes) refl (forms_bad (n + 1) lines fault) some

no_form : (n : ℕ) (bytes : List ℕ) (found : Option Line) → read_line bytes ≡ found → ((it : Line) → Spells_line bytes it → ⊥) → form_fault n found ≡ Some (Syntax n)
no_form n bytes None is none = refl
no_form n bytes (Some it) is none = absurd (none it (line_spelled bytes it is))

pub forms_first : (n : ℕ) (before : List (List ℕ)) (bad : List ℕ) (after : List (List ℕ)) (good : List Line) → AreSpelled before good → ((it : Line) → Spells_line bad it → ⊥) → forms_fault n (before ++ bad ∷ after) ≡ Some (Syntax (length before + n))
forms_first n [] bad after good spelled none =
    ap (λ first. first_of first (forms_fault (n + 1) after)) (no_form n bad (read_line bad) refl none) ∙ ap (λ m. Some (Syntax m)) (omega arith)
forms_first n (bytes ∷ before) bad after [] spelled none = absurd spelled
forms_first n (bytes ∷ before) bad after (it ∷ good) spelled none =
    ap (λ first. first_of (form_fault n first) (forms_fault (n + 1) (before ++ bad ∷ after))) (line_reads bytes it spelled.0)
    ∙ forms_first (n + 1) before bad after good spelled.1 none
    ∙ ap (λ m. Some (Syntax m)) (omega arith)
