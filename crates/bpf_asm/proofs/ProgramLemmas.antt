-- What is printed of a program is assembled to its words.
use Rattle.std.proofs.Common.{◌≡◌, ◌∙◌, ◌+◌, ◌++◌, ◌<◌, List, None, Ok, Option, Some, [], ap, append_assoc, arith, get_or, length, map, refl, subst, suc, sym, zero, ◌∷◌, ℕ}
use Rattle.std.specs.Prelude.{slice_get}
use Rattle.std.specs.List.{AllByRecursion, AllZip, flat_map}
use Rattle.std.proofs.lemmas.List.{append-nil}
use Rattle.bpf_insn.specs.declared.instruction.Insn.{Insn}
use Rattle.bpf_insn.specs.declared.instruction.Insn.TheVariants.{Alu, CopyFromX, CopyToX, Jump, JumpIf, LoadAbsolute, LoadCell, LoadConstant, LoadIndexed, LoadLength, LoadXCell, LoadXConstant, LoadXHeader, LoadXLength, Negate, ReturnA, ReturnConstant, Store, StoreX}
use Rattle.bpf_insn.specs.Word.{FieldsFit, IsInstructionWord, instruction_of}
use Rattle.bpf_insn.proofs.WordLemmas.{fields_fit, instruction_of-sound}
use Rattle.bpf_verify.specs.Accepted.{IsAccepted}
use Rattle.bpf_verify.proofs.PlaceLemmas.{faultless_at}
use Rattle.bpf_asm.proofs.ShownLemmas.{Shows, StaysOnLine, gap_shown, lines_of-last, lines_of-line, printable, printable-append}
use Rattle.bpf_asm.specs.Assembly.{Assembles, places_of}
use Rattle.bpf_asm.specs.Line.{lines_of}
use Rattle.bpf_asm.specs.body.Reading.{line}
use Rattle.bpf_asm.specs.Statement.{Line, Spells_line}
use Rattle.bpf_asm.specs.Target.{IsCode, IsInsnOf, doubles_fault, statements_of}
use Rattle.bpf_asm.specs.Text.{IsPrintable, printed, printed_after, printed_first, printed_in_line, printed_insn, printed_line}
use Rattle.bpf_asm.proofs.PrintLemmas.{insn_prints, statement_for}

-- an instruction's line
abbrev pub line_for : Insn → Line
line_for insn = line None (Some (statement_for insn))

insn_line : (insn : Insn) → FieldsFit insn → Spells_line (printed_insn insn) (line_for insn)
insn_line insn fits = let it = insn_prints insn fits in (it.tokens, it.shown.tokens_are, it.spelled)

insn_of_statement : (places : List ℕ → Option ℕ) (pc : ℕ) (insn : Insn) → FieldsFit insn → IsInsnOf places pc (statement_for insn) insn
insn_of_statement places pc (LoadAbsolute size k) fits = refl
insn_of_statement places pc (LoadIndexed size k) fits = refl
insn_of_statement places pc (LoadConstant k) fits = refl
insn_of_statement places pc (LoadCell k) fits = refl
insn_of_statement places pc LoadLength fits = refl
insn_of_statement places pc (LoadXConstant k) fits = refl
insn_of_statement places pc (LoadXCell k) fits = refl
insn_of_statement places pc LoadXLength fits = refl
insn_of_statement places pc (LoadXHeader k) fits = refl
insn_of_statement places pc (Store k) fits = refl
insn_of_statement places pc (StoreX k) fits = refl
insn_of_statement places pc (Alu operation right) fits = refl
insn_of_statement places pc Negate fits = refl
insn_of_statement places pc CopyToX fits = refl
insn_of_statement places pc CopyFromX fits = refl
insn_of_statement places pc (ReturnConstant k) fits = refl
insn_of_statement places pc ReturnA fits = refl
insn_of_statement places pc (Jump k) fits = (k, refl, omega arith, refl)
insn_of_statement places pc (JumpIf test right offsets) fits =
    (offsets.jt, offsets.jf, refl, omega (arith, fits.1), refl, omega (arith, fits.2), refl)

-- ---- programs

-- a word of an instruction
abbrev pub IsInsn : ℕ → Type 0
IsInsn w = (insn : Insn) × (instruction_of w ≡ Ok insn)

-- texts of lines without labels that are these words, whatever stands before them
pub record Gives (texts : List (List ℕ)) (words : List ℕ) : Type 0 where
  pub lines : List Line
  pub in_form : AllZip Spells_line texts lines
  pub apart : (earlier : List (List ℕ)) (n : ℕ) → doubles_fault earlier n lines ≡ None
  pub code : (places : List ℕ → Option ℕ) (pc : ℕ) → IsCode places pc (statements_of lines) words

nothing_more : Gives [] []
nothing_more = record { lines = []; in_form = tt; apart = λ earlier n. refl; code = λ places pc. refl }

empty_line : Gives ([] ∷ []) []
empty_line = record {
  lines = line None None ∷ [];
  in_form = (([], refl, refl), tt);
  apart = λ earlier n. refl;
  code = λ places pc. refl;
}

more_words : (w : ℕ) (insn : Insn) (text : List ℕ) (texts : List (List ℕ)) (words : List ℕ) → instruction_of w ≡ Ok insn →
    Spells_line text (line_for insn) → Gives texts words → Gives (text ∷ texts) (w ∷ words)
more_words w insn text texts words is spelled later = record {
  lines = line_for insn ∷ later.lines;
  in_form = (spelled, later.in_form);
  apart = λ earlier n. later.apart earlier (n + 1);
  code = λ places pc. (insn, words, ap (λ it. it ∷ words) (sym (instruction_of-sound w insn is).1), insn_of_statement places pc insn (fields_fit w insn is), later.code places (pc + 1));
}

assembled : (text words : List ℕ) → Gives (lines_of text) words → Assembles text words
assembled text words it = record {
  lines = it.lines;
  in_form = it.in_form;
  names_apart = it.apart [] 1;
  code = it.code (places_of it.lines) 0;
}

gives : (words : List ℕ) → AllByRecursion IsInsn words → Gives (lines_of (printed words)) words
gives [] all = empty_line
gives (w ∷ words) all =
    let insn = all.0.0 in
    let is = all.0.1 in
    let fits = fields_fit w insn is in
    let printed_is : printed (w ∷ words) ≡ printed_insn insn ++ (10 ∷ printed words) =
    ap (λ it. printed_line it ++ printed words) is ∙ append_assoc (printed_insn insn) (10 ∷ []) (printed words) in
    let cut = ap lines_of printed_is ∙ lines_of-line 10 refl (printed_insn insn) (printed words) (insn_prints insn fits).shown.on_line in
    subst (λ texts. Gives texts (w ∷ words)) (sym cut)
    (more_words w insn (printed_insn insn) (lines_of (printed words)) words is (insn_line insn fits) (gives words all.1))

-- ---- on one line

-- the instructions after the first, and the lines that they are
abbrev others_text : List ℕ → List ℕ
others_text words = flat_map (λ next. printed_after (instruction_of next)) words

abbrev others_lines : List ℕ → List (List ℕ)
others_lines words = map (λ next. 32 ∷ printed_first (instruction_of next)) words

after_gap : (insn : Insn) → (fits : FieldsFit insn) → Shows (32 ∷ printed_insn insn) (insn_prints insn fits).tokens
after_gap insn fits = let it = insn_prints insn fits in gap_shown (printed_insn insn) it.tokens it.shown

others_cut : (text words : List ℕ) → StaysOnLine text → AllByRecursion IsInsn words → lines_of (text ++ others_text words) ≡ text ∷ others_lines words
others_cut text [] stays all = ap lines_of (append-nil text) ∙ lines_of-last text stays
others_cut text (w ∷ words) stays all =
    let insn = all.0.0 in
    let is = all.0.1 in
    let next = 32 ∷ printed_insn insn in
    let split : text ++ others_text (w ∷ words) ≡ text ++ 59 ∷ (next ++ others_text words) = ap (λ it. text ++ (printed_after it ++ others_text words)) is in
    let lines : next ∷ others_lines words ≡ others_lines (w ∷ words) = ap (λ it. (32 ∷ printed_first it) ∷ others_lines words) (sym is) in
    ap lines_of split
    ∙ lines_of-line 59 refl text (next ++ others_text words) stays
    ∙ ap (λ later. text ∷ later) (others_cut next words (after_gap insn (fields_fit w insn is)).on_line all.1 ∙ lines)

others_give : (words : List ℕ) → AllByRecursion IsInsn words → Gives (others_lines words) words
others_give [] all = nothing_more
others_give (w ∷ words) all =
    let insn = all.0.0 in
    let is = all.0.1 in
    let fits = fields_fit w insn is in
    let spelled : Spells_line (32 ∷ printed_insn insn) (line_for insn) = ((insn_prints insn fits).tokens, (after_gap insn fits).tokens_are, (insn_prints insn fits).spelled) in
    subst (λ it. Gives ((32 ∷ printed_first it) ∷ others_lines words) (w ∷ words)) (sym is)
    (more_words w insn (32 ∷ printed_insn insn) (others_lines words) words is spelled (others_give words all.1))

one_line_gives : (words : List ℕ) → AllByRecursion IsInsn words → Gives (lines_of (printed_in_line words)) words
one_line_gives [] all = empty_line
one_line_gives (w ∷ words) all =
    let insn = all.0.0 in
    let is = all.0.1 in
    let fits = fields_fit w insn is in
    let cut : lines_of (printed_in_line (w ∷ words)) ≡ printed_insn insn ∷ others_lines words =
    ap (λ it. lines_of (printed_first it ++ others_text words)) is
    ∙ others_cut (printed_insn insn) words (insn_prints insn fits).shown.on_line all.1 in
    subst (λ texts. Gives texts (w ∷ words)) (sym cut)
    (more_words w insn (printed_insn insn) (others_lines words) words is (insn_line insn fits) (others_give words all.1))

others_are_printable : (words : List ℕ) → AllByRecursion IsInsn words → IsPrintable (others_text words)
others_are_printable [] all = refl
others_are_printable (w ∷ words) all =
    let insn = all.0.0 in
    let fits = fields_fit w insn all.0.1 in
    subst (λ it. IsPrintable (printed_after it ++ others_text words)) (sym all.0.1)
    (printable-append (printed_after (Ok insn)) (others_text words) (printable (printed_insn insn) (insn_prints insn fits).shown.on_line) (others_are_printable words all.1))

one_line_printable : (words : List ℕ) → AllByRecursion IsInsn words → IsPrintable (printed_in_line words)
one_line_printable [] all = refl
one_line_printable (w ∷ words) all =
    let insn = all.0.0 in
    let fits = fields_fit w insn all.0.1 in
    subst (λ it. IsPrintable (printed_first it ++ others_text words)) (sym all.0.1)
    (printable-append (printed_insn insn) (others_text words) (printable (printed_insn insn) (insn_prints insn fits).shown.on_line) (others_are_printable words all.1))

-- ---- programs that are accepted

slice_get-get_or : (words : List ℕ) (i : ℕ) → i < length words → slice_get words i ≡ Some (get_or words i 0)
slice_get-get_or [] i inside = absurd (omega arith)
slice_get-get_or (w ∷ words) zero inside = refl
slice_get-get_or (w ∷ words) (suc i) inside = slice_get-get_or words i (omega arith)

all_insns : (words : List ℕ) → ((i : ℕ) → i < length words → IsInsn (get_or words i 0)) → AllByRecursion IsInsn words
all_insns [] known = tt
all_insns (w ∷ words) known = (known 0 (omega arith), all_insns words (λ i inside. known (suc i) (omega arith)))

insn_at : (words : List ℕ) (i : ℕ) → IsAccepted words → i < length words → IsInsn (get_or words i 0)
insn_at words i accepted inside =
    let here = faultless_at words i (get_or words i 0) (accepted.faultless i inside) (slice_get-get_or words i inside) in
    (here.insn, here.read)

pub instruction_word_at : (words : List ℕ) (i : ℕ) → IsAccepted words → i < length words → IsInstructionWord (get_or words i 0)
instruction_word_at words i accepted inside =
    let here = insn_at words i accepted inside in (instruction_of-sound (get_or words i 0) here.0 here.1).0

accepted_insns : (words : List ℕ) → IsAccepted words → AllByRecursion IsInsn words
accepted_insns words accepted = all_insns words (λ i inside. insn_at words i accepted inside)

pub reads_back : (words : List ℕ) → IsAccepted words → Assembles (printed words) words
reads_back words accepted = assembled (printed words) words (gives words (accepted_insns words accepted))

pub line_reads_back : (words : List ℕ) → IsAccepted words → Assembles (printed_in_line words) words
line_reads_back words accepted = assembled (printed_in_line words) words (one_line_gives words (accepted_insns words accepted))

pub line_printable : (words : List ℕ) → IsAccepted words → IsPrintable (printed_in_line words)
line_printable words accepted = one_line_printable words (accepted_insns words accepted)
