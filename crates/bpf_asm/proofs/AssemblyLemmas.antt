-- What a text is assembled to, and its fault: one of them, and only one.
use Rattle.std.proofs.Common.{◌≡◌, ◌∙◌, ◌+◌, ◌-◌, ◌⊎◌, Err, IfErr, IsOk, List, None, Ok, Option, Result, Some, [], ap, cond, false, inl, inr, nat_le, refl, subst, sym, true, ◌∷◌, Bool, ℕ}
use Rattle.bpf_asm.specs.declared.fault.AsmFault.{AsmFault}
use Rattle.bpf_asm.specs.declared.fault.AsmFault.TheVariants.{BackwardJump, DoubleLabel, OutOfMemory, Syntax, TooFar, UnknownLabel}
use Rattle.bpf_asm.proofs.TargetLemmas.{no_targets_fault, one_code}
use Rattle.bpf_asm.proofs.TextLemmas.{forms_bad, forms_first, forms_good, forms_none, lines_unique}
use Rattle.bpf_asm.specs.Assembly.{Assembles, HasFaultOfLines, HasNotBoth, HasOneFault, HasOneValue, IsFaultOf, IsFaultOrMemory, IsFirstOutOfForm, IsLines, fault_of_lines, places_of}
use Rattle.bpf_asm.specs.Line.{lines_of}
use Rattle.bpf_asm.specs.body.Reading.{forms_fault, lines_read}
use Rattle.bpf_asm.specs.Statement.{Line, Statement, Target, branch, goes_to, jump, plain, skips}
use Rattle.bpf_asm.specs.Target.{FARTHEST, FARTHEST_BRANCH, IsCode, count_of, defines_again, doubles_fault, first_of, place_fault, statement_fault, statements_of, target_fault, targets_fault, with_name}
use Rattle.bpf_asm.specs.body.View.{UnlessMemory}

-- the fault of a text, as it is found
abbrev pub found_fault : List ℕ → Option AsmFault
found_fault text = first_of (forms_fault 1 (lines_of text)) (fault_of_lines (lines_read text))

-- ---- one value, one fault, never both

no_fault : (text words : List ℕ) → Assembles text words → found_fault text ≡ None
no_fault text words is =
    let same = lines_unique (lines_of text) is.lines is.in_form in
    ap (λ first. first_of first (fault_of_lines (lines_read text))) (forms_none 1 (lines_of text) is.lines is.in_form)
    ∙ ap fault_of_lines (sym same)
    ∙ ap (λ first. first_of first (targets_fault (places_of is.lines) 0 1 is.lines)) is.names_apart
    ∙ no_targets_fault (places_of is.lines) is.lines 0 1 words is.code

fault_of_text : (text : List ℕ) (fault : AsmFault) → HasFaultOfLines text fault → found_fault text ≡ Some fault
fault_of_text text fault is =
    let same = lines_unique (lines_of text) is.lines is.in_form in
    ap (λ first. first_of first (fault_of_lines (lines_read text))) (forms_none 1 (lines_of text) is.lines is.in_form)
    ∙ ap fault_of_lines (sym same)
    ∙ is.first

fault_found : (text : List ℕ) (fault : AsmFault) → IsFaultOf text fault → found_fault text ≡ Some fault
fault_found text (Syntax n) is =
    ap (λ lines. first_of (forms_fault 1 lines) (fault_of_lines (lines_read text))) is.cut
    ∙ ap (λ first. first_of first (fault_of_lines (lines_read text))) (forms_first 1 is.before is.bad is.after is.good is.before_in_form is.in_no_form)
    ∙ ap (λ m. Some (Syntax m)) (sym is.number)
fault_found text (DoubleLabel n) is = fault_of_text text (DoubleLabel n) is
fault_found text (UnknownLabel n) is = fault_of_text text (UnknownLabel n) is
fault_found text (BackwardJump n) is = fault_of_text text (BackwardJump n) is
fault_found text (TooFar n) is = fault_of_text text (TooFar n) is
fault_found text OutOfMemory is = absurd is

pub not_both : HasNotBoth
not_both text words fault assembles is =
    let none = no_fault text words assembles in
    let some = fault_found text fault is in
    absurd cc

pub one_fault : HasOneFault
one_fault text a b first second =
    let one = fault_found text a first in
    let other = fault_found text b second in
    cc

pub one_value : HasOneValue
one_value text a b first second =
    let same = lines_unique (lines_of text) first.lines first.in_form ∙ sym (lines_unique (lines_of text) second.lines second.in_form) in
    one_code (places_of first.lines) 0 (statements_of first.lines) a b first.code (subst (λ lines. IsCode (places_of lines) 0 (statements_of lines) b) (sym same) second.code)

-- ---- what is found is the fault

abbrev OfLines : AsmFault → Type 0
OfLines (Syntax n) = ⊥
OfLines (DoubleLabel n) = Unit {0}
OfLines (UnknownLabel n) = Unit {0}
OfLines (BackwardJump n) = Unit {0}
OfLines (TooFar n) = Unit {0}
OfLines OutOfMemory = ⊥

-- one of two faults
of_first : (first second : Option AsmFault) (fault : AsmFault) → ((it : AsmFault) → first ≡ Some it → OfLines it) → ((it : AsmFault) → second ≡ Some it → OfLines it) → first_of first second ≡ Some fault → OfLines fault
of_first None second fault one other is = other fault is
of_first (Some it) second fault one other is = let same : it ≡ fault = cc in subst OfLines same (one it refl)

-- the fault of a test, else another
of_test : (test : Bool) (here later : Option AsmFault) (fault : AsmFault) → (here ≡ Some fault → OfLines fault) → (later ≡ Some fault → OfLines fault) → cond test here later ≡ Some fault → OfLines fault
of_test true here later fault one other is = one is
of_test false here later fault one other is = other is

lone : (own fault : AsmFault) → OfLines own → Some own ≡ Some fault → OfLines fault
lone own fault of_lines is = let same : own ≡ fault = cc in subst OfLines same of_lines

nothing : (fault : AsmFault) → None ≡ Some fault → OfLines fault
nothing fault is = absurd cc

doubles_of_lines : (earlier : List (List ℕ)) (n : ℕ) (lines : List Line) (fault : AsmFault) → doubles_fault earlier n lines ≡ Some fault → OfLines fault
doubles_of_lines earlier n [] fault is = nothing fault is
doubles_of_lines earlier n (line ∷ lines) fault is =
    of_test (defines_again earlier line.label) (Some (DoubleLabel n)) (doubles_fault (with_name line.label earlier) (n + 1) lines) fault (lone (DoubleLabel n) fault tt) (doubles_of_lines (with_name line.label earlier) (n + 1) lines fault) is

module _ (places : List ℕ → Option ℕ) where
  place_of_lines : (pc most n : ℕ) (place : Option ℕ) (fault : AsmFault) → place_fault pc most n place ≡ Some fault → OfLines fault
  place_of_lines pc most n None fault is = lone (UnknownLabel n) fault tt is
  place_of_lines pc most n (Some place) fault is =
      of_test (nat_le place pc) (Some (BackwardJump n)) _ fault (lone (BackwardJump n) fault tt) (of_test (nat_le (place - (pc + 1)) most) None (Some (TooFar n)) fault (nothing fault) (lone (TooFar n) fault tt)) is

  target_of_lines : (pc most n : ℕ) (target : Target) (fault : AsmFault) → target_fault places pc most n target ≡ Some fault → OfLines fault
  target_of_lines pc most n (skips k) fault is = of_test (nat_le k most) None (Some (TooFar n)) fault (nothing fault) (lone (TooFar n) fault tt) is
  target_of_lines pc most n (goes_to name) fault is = place_of_lines pc most n (places name) fault is

  statement_of_lines : (pc n : ℕ) (statement : Option Statement) (fault : AsmFault) → statement_fault places pc n statement ≡ Some fault → OfLines fault
  statement_of_lines pc n None fault is = nothing fault is
  statement_of_lines pc n (Some (plain insn)) fault is = nothing fault is
  statement_of_lines pc n (Some (jump target)) fault is = target_of_lines pc FARTHEST n target fault is
  statement_of_lines pc n (Some (branch test right on_true on_false)) fault is =
      of_first (target_fault places pc FARTHEST_BRANCH n on_true) (target_fault places pc FARTHEST_BRANCH n on_false) fault (target_of_lines pc FARTHEST_BRANCH n on_true) (target_of_lines pc FARTHEST_BRANCH n on_false) is

  targets_of_lines : (pc n : ℕ) (lines : List Line) (fault : AsmFault) → targets_fault places pc n lines ≡ Some fault → OfLines fault
  targets_of_lines pc n [] fault is = nothing fault is
  targets_of_lines pc n (line ∷ lines) fault is =
      of_first (statement_fault places pc n line.statement) (targets_fault places (pc + count_of line.statement) (n + 1) lines) fault (statement_of_lines pc n line.statement) (targets_of_lines (pc + count_of line.statement) (n + 1) lines) is

as_fault : (text : List ℕ) (fault : AsmFault) → OfLines fault → HasFaultOfLines text fault → IsFaultOrMemory text fault
as_fault text (Syntax n) of_lines is = absurd of_lines
as_fault text (DoubleLabel n) of_lines is = is
as_fault text (UnknownLabel n) of_lines is = is
as_fault text (BackwardJump n) of_lines is = is
as_fault text (TooFar n) of_lines is = is
as_fault text OutOfMemory of_lines is = tt

-- ---- what `assemble` answers

forms_refused : (text : List ℕ) (fault : AsmFault) → forms_fault 1 (lines_of text) ≡ Some fault → IsFaultOrMemory text fault
forms_refused text fault is =
    let found = forms_bad 1 (lines_of text) fault is in
    let first : IsFirstOutOfForm text found.m = record {
      before = found.first.before;
      bad = found.first.bad;
      after = found.first.after;
      good = found.first.good;
      cut = found.first.cut;
      before_in_form = found.first.before_in_form;
      in_no_form = found.first.in_no_form;
      number = found.first.number;
    } in
    subst (IsFaultOrMemory text) (sym found.is) first

pub lines_refused : (text : List ℕ) (fault : AsmFault) → UnlessMemory fault (forms_fault 1 (lines_of text)) → IsFaultOrMemory text fault
lines_refused text fault (inl memory) = subst (IsFaultOrMemory text) (sym memory) tt
lines_refused text fault (inr is) = forms_refused text fault is

module _ (text : List ℕ) (good : forms_fault 1 (lines_of text) ≡ None) where
  in_form : IsLines text (lines_read text)
  in_form = forms_good 1 (lines_of text) good

  pub labels_refused : (fault : AsmFault) → UnlessMemory fault (doubles_fault [] 1 (lines_read text)) → IsFaultOrMemory text fault
  labels_refused fault (inl memory) = subst (IsFaultOrMemory text) (sym memory) tt
  labels_refused fault (inr is) =
      as_fault text fault (doubles_of_lines [] 1 (lines_read text) fault is) (record {
        lines = lines_read text;
        in_form = in_form;
        first = ap (λ first. first_of first (targets_fault (places_of (lines_read text)) 0 1 (lines_read text))) is;
      })

  module _ (places : List ℕ → Option ℕ) (apart : doubles_fault [] 1 (lines_read text) ≡ None) (same : places ≡ places_of (lines_read text)) where
    pub targets_refused : (fault : AsmFault) → UnlessMemory fault (targets_fault places 0 1 (lines_read text)) → IsFaultOrMemory text fault
    targets_refused fault (inl memory) = subst (IsFaultOrMemory text) (sym memory) tt
    targets_refused fault (inr is) =
        as_fault text fault (targets_of_lines places 0 1 (lines_read text) fault is) (record {
          lines = lines_read text;
          in_form = in_form;
          first =
              ap (λ first. first_of first (targets_fault (places_of (lines_read text)) 0 1 (lines_read text))) apart
              ∙ ap (λ own. targets_fault own 0 1 (lines_read text)) (sym same)
              ∙ is;
        })

    pub assembled : (words : List ℕ) → IsCode places 0 (statements_of (lines_read text)) words → Assembles text words
    assembled words code = record {
      lines = lines_read text;
      in_form = in_form;
      names_apart = apart;
      code = subst (λ own. IsCode own 0 (statements_of (lines_read text)) words) same code;
    }

-- a text that is assembled is refused for want of memory alone
pub memory_only : (text words : List ℕ) (fault : AsmFault) → IsFaultOrMemory text fault → Assembles text words → fault ≡ OutOfMemory
memory_only text words (Syntax n) is assembles = absurd (not_both text words (Syntax n) assembles is)
memory_only text words (DoubleLabel n) is assembles = absurd (not_both text words (DoubleLabel n) assembles is)
memory_only text words (UnknownLabel n) is assembles = absurd (not_both text words (UnknownLabel n) assembles is)
memory_only text words (BackwardJump n) is assembles = absurd (not_both text words (BackwardJump n) assembles is)
memory_only text words (TooFar n) is assembles = absurd (not_both text words (TooFar n) assembles is)
memory_only text words OutOfMemory is assembles = refl

pub refuses_none : {X : Type 0} (text : List ℕ) (answer : Result X AsmFault) → IfErr answer (IsFaultOrMemory text) → (words : List ℕ) → Assembles text words → IsOk answer ⊎ (answer ≡ Err OutOfMemory)
refuses_none text (Ok found) is words assembles = inl refl
refuses_none text (Err fault) is words assembles = inr (ap (λ it. Err it) (memory_only text words fault is assembles))
