-- Rules files: their lines, and what the lines make one after the other.
use Rattle.std.proofs.Common.{◌≡◌, ◌∙◌, ◌==◌, ◌+◌, ◌-◌, ◌<◌, ◌≤◌, ◌++◌, ◌∷◌, Bool, List, None, Some, [], ap, append-nil, append_assoc, arith, false, length, length-append, refl, subst, suc, sym, true, ℕ}
use Rattle.std.proofs.lemmas.Bool.{both_ways, lt-ltb, ne_eqb}
use Rattle.config_image.specs.Image.{Group}
use Rattle.filter_program.specs.Program.{IsProgramFor}
use Rattle.ipv4_fields.specs.Cut.{IsSplitAt, Lacks}
use Rattle.control_line.specs.declared.program.LineFault.TheVariants as line_fault
use Rattle.control_line.specs.declared.reason.Reason.{Reason}
use Rattle.control_line.specs.declared.reason.Reason.TheVariants.{Publishing}
use Rattle.member_group.specs.Charge.{charge_of}
use Rattle.retire.specs.declared.fault.PublishFault.TheVariants.{TooBig}
use Rattle.versions.specs.declared.layout.TheConstants.{CHARGE_LIMIT}
use Rattle.control_line.proofs.ChangeLemmas.{charged_alike}
use Rattle.control_line.specs.declared.rules_file.RulesFault.{RulesFault}
use Rattle.control_line.specs.declared.rules_file.RulesFault.TheVariants.{OutOfMemory, Refused}
use Rattle.control_line.specs.Agrees.{Agrees, Compiler, TextConfig}
use Rattle.control_line.specs.Answer.{IsDoneBy, LeadBy, NumberedLine, no_line, one_more}
use Rattle.control_line.specs.Rules.{IsConfigOf, IsFaultOfFile, IsShortFile, RefusesFileBy, bad_line, grow_first, is_skipped, line_numbered, lines_in, rule_of, rules_from, rules_in, too_big, without_return}
use Rattle.control_line.specs.body.Blocks.{IsDone, IsLineFault}
use Rattle.control_line.specs.body.Rules.{AreRulesDone, IsFileFaultAt, IsFirstLine, IsLineDone, IsLineFaultAt}

-- ---- the lines of a text

lacks-tail : (x : ℕ) (text : List ℕ) → Lacks 10 (x ∷ text) → Lacks 10 text
lacks-tail x text lacks k inside = lacks (suc k) (omega arith)

not_end : (x : ℕ) (text : List ℕ) → Lacks 10 (x ∷ text) → (x == 10) ≡ false
not_end x text lacks = ne_eqb x 10 (lacks 0 (omega arith))

pub lines_in-cut : (line rest : List ℕ) → Lacks 10 line → lines_in (line ++ 10 ∷ rest) ≡ line ∷ lines_in rest
lines_in-cut [] rest lacks = refl
lines_in-cut (x ∷ line) rest lacks =
    simp (not_end x line lacks) (ap (grow_first x) (lines_in-cut line rest (lacks-tail x line lacks)))

pub lines_in-last : (x : ℕ) (line : List ℕ) → Lacks 10 (x ∷ line) → lines_in (x ∷ line) ≡ (x ∷ line) ∷ []
lines_in-last x [] lacks = simp (not_end x [] lacks) refl
lines_in-last x (y ∷ line) lacks =
    simp (not_end x (y ∷ line) lacks) (ap (grow_first x) (lines_in-last y line (lacks-tail x (y ∷ line) lacks)))

pub first_line_cut : (text line rest : List ℕ) → IsSplitAt 10 text line rest → IsFirstLine text line rest
first_line_cut text line rest cut = record {
  lines = ap lines_in cut.whole ∙ lines_in-cut line rest cut.lacks;
  shorter = omega (arith, ap length cut.whole, length-append line (10 ∷ rest));
}

pub first_line_last : (text rest : List ℕ) → (text ≡ [] → ⊥) → Lacks 10 text → rest ≡ [] → IsFirstLine text text rest
first_line_last [] rest some lacks none = absurd (some refl)
first_line_last (x ∷ line) rest some lacks none = record {
  lines = lines_in-last x line lacks ∙ ap (λ (r : List ℕ). (x ∷ line) ∷ lines_in r) (sym none);
  shorter = omega (arith, ap length none);
}

-- ---- which lines count

pub rule_of-skipped : (number : ℕ) (line : List ℕ) → is_skipped line ≡ true → rule_of number line ≡ []
rule_of-skipped number line skipped = simp skipped refl

pub rule_of-counts : (number : ℕ) (line : List ℕ) → is_skipped line ≡ false
    → rule_of number line ≡ (let rule : NumberedLine = record { number = number; text = without_return line } in rule ∷ [])
rule_of-counts number line counts = simp counts refl

-- ---- the CR at a line's end

pub return_is_cut : (front : List ℕ) → without_return (front ++ 13 ∷ []) ≡ front
return_is_cut [] = refl
return_is_cut (x ∷ []) = refl
return_is_cut (x ∷ y ∷ front) = ap (λ (line : List ℕ). x ∷ line) (return_is_cut (y ∷ front))

pub other_is_kept : (front : List ℕ) (last : ℕ) → (last ≡ 13 → ⊥) → without_return (front ++ last ∷ []) ≡ front ++ last ∷ []
other_is_kept [] last other = simp (ne_eqb last 13 other) refl
other_is_kept (x ∷ []) last other = ap (λ (line : List ℕ). x ∷ line) (other_is_kept [] last other)
other_is_kept (x ∷ y ∷ front) last other = ap (λ (line : List ℕ). x ∷ line) (other_is_kept (y ∷ front) last other)

-- ---- how many lines count

length-rule_of : (one other : ℕ) (line : List ℕ) (skipped : Bool) → is_skipped line ≡ skipped → length (rule_of one line) ≡ length (rule_of other line)
length-rule_of one other line true is = simp is refl
length-rule_of one other line false is = simp is refl

pub length-rules_from : (one other : ℕ) (lines : List (List ℕ)) → length (rules_from one lines) ≡ length (rules_from other lines)
length-rules_from one other [] = refl
length-rules_from one other (line ∷ rest) =
    omega (
      arith,
      length-append (rule_of one line) (rules_from (suc one) rest),
      length-append (rule_of other line) (rules_from (suc other) rest),
      length-rule_of one other line (is_skipped line) refl,
      length-rules_from (suc one) (suc other) rest,
    )

-- the rules of the first line, and those of the rest
pub rules_from-first : (number : ℕ) (text line rest : List ℕ) → IsFirstLine text line rest
    → rules_from number (lines_in text) ≡ rule_of number line ++ rules_from (suc number) (lines_in rest)
rules_from-first number text line rest first = ap (rules_from number) first.lines

-- so many rules are before these lines
pub record AreCounted (text : List ℕ) (count : ℕ) (left : List ℕ) : Type 0 where
  pub all : length (rules_in text) ≡ count + length (rules_from 1 (lines_in left))
  pub few : count + length left ≤ length text

module _ (text : List ℕ) (count : ℕ) (left line rest : List ℕ) (so_far : AreCounted text count left) (first : IsFirstLine left line rest) where
  length_left : length (rules_from 1 (lines_in left)) ≡ length (rule_of 1 line) + length (rules_from 1 (lines_in rest))
  length_left =
      ap length (rules_from-first 1 left line rest first)
      ∙ length-append (rule_of 1 line) (rules_from 2 (lines_in rest))
      ∙ ap (λ (n : ℕ). length (rule_of 1 line) + n) (length-rules_from 2 1 (lines_in rest))

  pub counted_more : (more : ℕ) → more ≡ length (rule_of 1 line) → more ≤ 1 → AreCounted text (count + more) rest
  counted_more more is one = record {
    all = omega (arith, so_far.all, length_left, is);
    few = omega (arith, so_far.few, first.shorter, one);
  }

pub none_counted : (text : List ℕ) → AreCounted text 0 text
none_counted text = record { all = omega arith; few = omega arith }

pub all_counted : (text : List ℕ) (count : ℕ) (left : List ℕ) → AreCounted text count left → left ≡ [] → count ≡ length (rules_in text)
all_counted text count left so_far none =
    omega (arith, so_far.all, ap (λ (l : List ℕ). length (rules_from 1 (lines_in l))) none)

-- ---- lines that are done one after the other

pub lead_more : (by : Compiler) (config mid last : TextConfig) (earlier : List NumberedLine) (line : NumberedLine) → LeadBy by config earlier mid
    → IsDoneBy by mid line.text last → LeadBy by config (earlier ++ line ∷ []) last
lead_more by config mid last [] line (no_line _) done = one_more config line [] last last done (no_line last)
lead_more by config mid last (first ∷ earlier) line (one_more _ _ _ next _ one rest) done =
    one_more config first (earlier ++ line ∷ []) next last one (lead_more by next mid last earlier line rest done)

-- so many lines are before these, and they are done
pub record AreDoneBefore (text : List ℕ) (number : ℕ) (left : List ℕ) (config : List Group) : Type 0 where
  pub done : List NumberedLine
  pub reached : TextConfig
  pub all : rules_in text ≡ done ++ rules_from (suc number) (lines_in left)
  pub lead : LeadBy IsProgramFor [] done reached
  pub agrees : Agrees reached config
  pub few : number + length left ≤ length text

pub none_done : (text : List ℕ) (config : List Group) → config ≡ [] → AreDoneBefore text 0 text config
none_done text config empty = record {
  done = [];
  reached = [];
  all = refl;
  lead = no_line [];
  agrees = ([], refl, empty);
  few = omega arith;
}

module _ (text : List ℕ) (number : ℕ) (left line rest : List ℕ) (config : List Group) (so_far : AreDoneBefore text number left config) (first : IsFirstLine left line rest) where
  all_so_far : rules_in text ≡ so_far.done ++ (rule_of (suc number) line ++ rules_from (suc (suc number)) (lines_in rest))
  all_so_far = so_far.all ∙ ap (λ (more : List NumberedLine). so_far.done ++ more) (rules_from-first (suc number) left line rest first)

  abbrev rule_here : NumberedLine
  rule_here = record { number = suc number; text = without_return line }

  all_with_rule : is_skipped line ≡ false → rules_in text ≡ so_far.done ++ rule_here ∷ rules_from (suc (suc number)) (lines_in rest)
  all_with_rule counts =
      all_so_far
      ∙ ap (λ (here : List NumberedLine). so_far.done ++ (here ++ rules_from (suc (suc number)) (lines_in rest))) (rule_of-counts (suc number) line counts)

  done_skipped : is_skipped line ≡ true → AreDoneBefore text (suc number) rest config
  done_skipped skipped = record {
    done = so_far.done;
    reached = so_far.reached;
    all = all_so_far ∙ ap (λ (here : List NumberedLine). so_far.done ++ (here ++ rules_from (suc (suc number)) (lines_in rest))) (rule_of-skipped (suc number) line skipped);
    lead = so_far.lead;
    agrees = so_far.agrees;
    few = omega (arith, so_far.few, first.shorter);
  }

  done_rule : (next : List Group) → is_skipped line ≡ false → IsDone config (without_return line) next → AreDoneBefore text (suc number) rest next
  done_rule next counts done =
      let made = done so_far.reached so_far.agrees in
      record {
        done = so_far.done ++ rule_here ∷ [];
        reached = made.0;
        all = all_with_rule counts ∙ sym (append_assoc so_far.done (rule_here ∷ []) (rules_from (suc (suc number)) (lines_in rest)));
        lead = lead_more IsProgramFor [] so_far.reached made.0 so_far.done rule_here so_far.lead made.1;
        agrees = made.2;
        few = omega (arith, so_far.few, first.shorter);
      }

  -- a line more is done
  pub done_more : (after : ℕ) (next : List Group) → after ≡ suc number → IsLineDone config line next → AreDoneBefore text after rest next
  done_more after next is done = subst (λ (n : ℕ). AreDoneBefore text n rest next) (sym is) (by_line (is_skipped line) refl)
    where
      by_line : (skipped : Bool) → is_skipped line ≡ skipped → AreDoneBefore text (suc number) rest next
      by_line true is = subst (AreDoneBefore text (suc number) rest) (sym (done.skipped is)) (done_skipped is)
      by_line false is = done_rule next is (done.done is)

  -- or it is refused
  pub fault_here : (after : ℕ) (fault : RulesFault) → after ≡ suc number → IsLineFaultAt config line after fault → IsFileFaultAt text fault
  fault_here after (Refused None why) is (at, counts, refused) = absurd (cc)
  fault_here after (Refused (Some place) why) is (at, counts, refused) = record {
    earlier = so_far.done;
    line = rule_here;
    later = rules_from (suc (suc number)) (lines_in rest);
    mid = so_far.reached;
    all = all_with_rule counts;
    lead = so_far.lead;
    refused = refused so_far.reached so_far.agrees;
    number_is = (let same : place ≡ after = cc in same ∙ is);
  }
  fault_here after OutOfMemory is fault = tt

pub all_done : (text : List ℕ) (number : ℕ) (left : List ℕ) (config : List Group) → AreDoneBefore text number left config → left ≡ [] → AreRulesDone text config
all_done text number left config so_far none = (
  so_far.reached,
  subst (λ (rules : List NumberedLine). LeadBy IsProgramFor [] rules so_far.reached)
      (sym (so_far.all ∙ ap (λ (l : List ℕ). so_far.done ++ rules_from (suc number) (lines_in l)) none ∙ append-nil so_far.done)) so_far.lead,
  so_far.agrees,
)

-- ---- one line

pub line_skipped : (config : List Group) (line : List ℕ) → is_skipped line ≡ true → IsLineDone config line config
line_skipped config line skipped = record { skipped = λ is. refl; done = λ not_skipped. absurd (both_ways (is_skipped line) not_skipped skipped) }

pub line_is_done : (config next : List Group) (line cut : List ℕ) → is_skipped line ≡ false → cut ≡ without_return line → IsDone config cut next → IsLineDone config line next
line_is_done config next line cut counts is done = record {
  skipped = λ skipped. absurd (both_ways (is_skipped line) counts skipped);
  done = λ same. subst (λ (l : List ℕ). IsDone config l next) is done;
}

pub line_is_refused : (config : List Group) (line cut : List ℕ) (number : ℕ) (why : Reason) → is_skipped line ≡ false → cut ≡ without_return line
    → IsLineFault config cut (line_fault.Refused why) → IsLineFaultAt config line number (Refused (Some number) why)
line_is_refused config line cut number why counts is refused =
    (refl, counts, subst (λ (l : List ℕ). IsLineFault config l (line_fault.Refused why)) is refused)

-- ---- the whole file

pub file_fault : (text : List ℕ) (fault : RulesFault) → IsShortFile text → IsFileFaultAt text fault → IsFaultOfFile text fault
file_fault text (Refused None why) short none = absurd none
file_fault text (Refused (Some number) why) short first = bad_line number why short first
file_fault text OutOfMemory short none = tt

pub big_file : (text : List ℕ) (config : List Group) → IsShortFile text → AreRulesDone text config → CHARGE_LIMIT < charge_of config
    → RefusesFileBy IsProgramFor text None (Publishing TooBig)
big_file text config short (made, lead, agrees) big = too_big made short lead (omega (arith, big, charged_alike made config agrees))

pub file_made : (text : List ℕ) (config : List Group) → IsShortFile text → AreRulesDone text config → charge_of config ≤ CHARGE_LIMIT → IsConfigOf text config
file_made text config short (made, lead, agrees) small =
    (made, record { short = short; lead = lead; charge = omega (arith, small, charged_alike made config agrees) }, agrees)

-- ---- a line by its number

pub line_later : (number : ℕ) (text line rest : List ℕ) → IsFirstLine text line rest → 1 < number
    → line_numbered number (lines_in text) ≡ line_numbered (number - 1) (lines_in rest)
line_later number text line rest first later = ap (line_numbered number) first.lines ∙ simp (lt-ltb 1 number later) refl

pub line_none : (number : ℕ) (text : List ℕ) → text ≡ [] → line_numbered number (lines_in text) ≡ []
line_none number text none = ap (λ (t : List ℕ). line_numbered number (lines_in t)) none
