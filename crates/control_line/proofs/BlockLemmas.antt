-- The lines of a block, and what they make of a configuration.
use Rattle.std.proofs.Common.{◌≡◌, ◌∙◌, ◌+◌, ◌≤◌, ◌∷◌, ◌++◌, Err, List, Ok, Result, [], ap, append_assoc, append-nil, arith, length, length-append, refl, subst, suc, sym, ℕ}
use Rattle.std.specs.Prelude.{MatchResult}
use Rattle.std.specs.List.{All}
use Rattle.std.proofs.lemmas.List.Elements.{All-append, All-cons, All-head, All-nil, All-tail}
use Rattle.ipv4_fields.specs.Cut.{Lacks}
use Rattle.ipv4_fields.proofs.TextLemmas.{has_separator, one_cut}
use Rattle.config_image.specs.Image.{Group}
use Rattle.member_group.specs.declared.command.Command.{Command}
use Rattle.filter_program.specs.Program.{IsProgramFor, Source}
use Rattle.control_line.specs.declared.TheConstants.{LINE_LIMIT}
use Rattle.control_line.specs.declared.program.LineFault.{LineFault}
use Rattle.control_line.specs.declared.program.LineFault.TheVariants as failure_of
use Rattle.control_line.specs.Agrees.{Compiler, TextConfig}
use Rattle.control_line.specs.Answer.{IsDoneBy, LeadBy, NumberedLine, bad_change, no_line, numbered, one_more}
use Rattle.control_line.specs.Block.{EndsLine, after_line_feeds}
use Rattle.control_line.specs.Request.{Spells, change}
use Rattle.control_line.specs.body.Blocks.{AreDone, AreLines, IsDone, IsFaultAt, IsFirstFault, IsLineFault, IsNextLine}
use Rattle.control_line.specs.declared.block.BlockFault.{BlockFault}
use Rattle.control_line.specs.body.Making.{IsChangeDone, IsChangeFault}

-- ---- one of several lines

pub line_result : {V : Type 0} (line : List ℕ) (real next : List Group) (command : Command Source) → length line ≤ LINE_LIMIT → Spells line (change command) → (result : Result V LineFault)
    → MatchResult result (λ _. IsChangeDone command real next) (IsChangeFault command real) → MatchResult result (λ _. IsDone real line next) (IsLineFault real line)
line_result line real next command short spells (Ok done) is = λ text agrees.
    let now = is text agrees in (now.0, record { command = command; short = short; spells = spells; leads = now.1 }, now.2)
line_result line real next command short spells (Err (failure_of.Refused why)) fault = λ text agrees. bad_change command why short spells (fault.1 text agrees)
line_result line real next command short spells (Err failure_of.OutOfMemory) fault = tt

-- ---- the lines of a text

after-append : (lines more : List (List ℕ)) → after_line_feeds (lines ++ more) ≡ after_line_feeds lines ++ after_line_feeds more
after-append [] more = refl
after-append (line ∷ lines) more = ap (λ (rest : List ℕ). 10 ∷ (line ++ rest)) (after-append lines more) ∙ ap (λ (rest : List ℕ). 10 ∷ rest) (sym (append_assoc line (after_line_feeds lines) (after_line_feeds more)))

ends_line : (lines : List (List ℕ)) → EndsLine (after_line_feeds lines)
ends_line [] = tt
ends_line (line ∷ lines) = refl

-- a line is cut in one way from what follows it
pub line_cut : (line other rest more : List ℕ) → Lacks 10 line → Lacks 10 other → EndsLine rest → EndsLine more → line ++ rest ≡ other ++ more → (line ≡ other) × (rest ≡ more)
line_cut line other [] [] lacks also ends ends' same = (sym (append-nil line) ∙ same ∙ append-nil other, refl)
line_cut line other [] (byte ∷ more) lacks also ends ends' same =
    let at : byte ≡ 10 = ends' in
    absurd (has_separator 10 other more (subst (λ (b : ℕ). Lacks 10 (other ++ b ∷ more)) at (subst (Lacks 10) (sym (append-nil line) ∙ same) lacks)))
line_cut line other (byte ∷ rest) [] lacks also ends ends' same =
    let at : byte ≡ 10 = ends in
    absurd (has_separator 10 line rest (subst (λ (b : ℕ). Lacks 10 (line ++ b ∷ rest)) at (subst (Lacks 10) (sym (append-nil other) ∙ sym same) also)))
line_cut line other (byte ∷ rest) (byte' ∷ more) lacks also ends ends' same =
    let at : byte ≡ 10 = ends in let at' : byte' ≡ 10 = ends' in
    let cut = one_cut 10 line other rest more lacks also (ap (λ (b : ℕ). line ++ b ∷ rest) (sym at) ∙ same ∙ ap (λ (b : ℕ). other ++ b ∷ more) at') in
    (cut.0, ap (λ (b : ℕ). b ∷ rest) at ∙ ap (λ (r : List ℕ). 10 ∷ r) cut.1 ∙ ap (λ (b : ℕ). b ∷ more) (sym at'))

-- a text is lines in one way
pub one_lines : (lines other : List (List ℕ)) → All (Lacks 10) lines → All (Lacks 10) other → after_line_feeds lines ≡ after_line_feeds other → lines ≡ other
one_lines [] [] lacks also same = refl
one_lines [] (line ∷ other) lacks also same = absurd (cc)
one_lines (line ∷ lines) [] lacks also same = absurd (cc)
one_lines (line ∷ lines) (line' ∷ other) all all' same =
    let rest : line ++ after_line_feeds lines ≡ line' ++ after_line_feeds other = cc in
    let cut = line_cut line line' (after_line_feeds lines) (after_line_feeds other) (All-head (Lacks 10) line lines all) (All-head (Lacks 10) line' other all') (ends_line lines) (ends_line other) rest in
    ap (λ (l : List ℕ). l ∷ lines) cut.0 ∙ ap (λ (ls : List (List ℕ)). line' ∷ ls) (one_lines lines other (All-tail (Lacks 10) line lines all) (All-tail (Lacks 10) line' other all') cut.1)

-- ---- lines that are read one after the other

pub record AreReadTo (text left : List ℕ) (lines : List (List ℕ)) : Type 0 where
  pub are_lines : All (Lacks 10) lines
  pub whole : text ≡ after_line_feeds lines ++ left
  pub ends_line : EndsLine left

pub none_read : (text : List ℕ) → EndsLine text → AreReadTo text text []
none_read text ends = record { are_lines = All-nil (Lacks 10); whole = refl; ends_line = ends }

pub one_read : (text left : List ℕ) (lines : List (List ℕ)) (line rest : List ℕ) → AreReadTo text left lines → IsNextLine left line rest → AreReadTo text rest (lines ++ line ∷ [])
one_read text left lines line rest so_far next = record {
  are_lines = All-append (Lacks 10) lines (line ∷ []) so_far.are_lines (All-cons (Lacks 10) line [] next.lacks (All-nil (Lacks 10)));
  whole =
      so_far.whole
      ∙ ap (λ (t : List ℕ). after_line_feeds lines ++ t) (next.whole ∙ ap (λ (t : List ℕ). 10 ∷ (t ++ rest)) (sym (append-nil line)))
      ∙ sym (append_assoc (after_line_feeds lines) (10 ∷ (line ++ [])) rest)
      ∙ ap (λ (t : List ℕ). t ++ rest) (sym (after-append lines (line ∷ [])));
  ends_line = next.ends_line;
}

pub all_read : (text left : List ℕ) (lines : List (List ℕ)) → AreReadTo text left lines → left ≡ [] → AreLines text lines
all_read text left lines so_far none = record {
  are_lines = so_far.are_lines;
  whole = so_far.whole ∙ ap (λ (t : List ℕ). after_line_feeds lines ++ t) none ∙ append-nil (after_line_feeds lines);
}

pub shorter : (left line rest : List ℕ) → IsNextLine left line rest → suc (length rest) ≤ length left
shorter left line rest next = let long = ap length next.whole in omega (arith, long, length-append line rest)

-- the next line is the first of those that are left
next_of : (lines : List (List ℕ)) (left line rest : List ℕ) → All (Lacks 10) lines → left ≡ after_line_feeds lines → IsNextLine left line rest → (others : List (List ℕ)) × (lines ≡ line ∷ others) × (rest ≡ after_line_feeds others)
next_of [] left line rest all is next = let none : 10 ∷ (line ++ rest) ≡ [] = sym next.whole ∙ is in absurd (cc)
next_of (first ∷ others) left line rest all is next =
    let same : 10 ∷ (line ++ rest) ≡ 10 ∷ (first ++ after_line_feeds others) = sym next.whole ∙ is in
    let behind : line ++ rest ≡ first ++ after_line_feeds others = cc in
    let cut = line_cut line first rest (after_line_feeds others) next.lacks (All-head (Lacks 10) first others all) next.ends_line (ends_line others) behind in
    (others, ap (λ (l : List ℕ). l ∷ others) (sym cut.0), cut.1)

-- ---- numbers of lines

numbered-append : (n : ℕ) (lines more : List (List ℕ)) → numbered n (lines ++ more) ≡ numbered n lines ++ numbered (n + length lines) more
numbered-append n [] more = let same : n ≡ n + 0 = omega arith in ap (λ k. numbered k more) same
numbered-append n (line ∷ lines) more =
    let same : suc n + length lines ≡ n + suc (length lines) = omega arith in
    ap (λ (ls : List NumberedLine). record { number = n; text = line } ∷ ls) (numbered-append (suc n) lines more ∙ ap (λ k. numbered (suc n) lines ++ numbered k more) same)

pub lead_on : (by : Compiler) (lines : List NumberedLine) (config mid next : TextConfig) (line : NumberedLine) → LeadBy by config lines mid → IsDoneBy by mid line.text next → LeadBy by config (lines ++ line ∷ []) next
lead_on by _ _ _ next line (no_line config) done = one_more config line [] next next done (no_line next)
lead_on by _ _ _ next line (one_more config first rest mid last also lead) done = one_more config first (rest ++ line ∷ []) mid next also (lead_on by rest mid last next line lead done)

-- ---- the configuration that lines make

-- so many lines are done, and the others are left
pub record AreDoneTo (start config : List Group) (number : ℕ) (left : List ℕ) (lines : List (List ℕ)) : Type 0 where
  pub done : List (List ℕ)
  pub others : List (List ℕ)
  pub all : lines ≡ done ++ others
  pub are_lines : All (Lacks 10) others
  pub left_is : left ≡ after_line_feeds others
  pub count : number ≡ length done
  pub leads : AreDone start done config

pub none_done : (start : List Group) (text : List ℕ) (lines : List (List ℕ)) → AreLines text lines → AreDoneTo start start 0 text lines
none_done start text lines are = record {
  done = [];
  others = lines;
  all = refl;
  are_lines = are.are_lines;
  left_is = are.whole;
  count = refl;
  leads = λ config agrees. (config, no_line config, agrees);
}

module _ (start config : List Group) (number : ℕ) (left : List ℕ) (lines : List (List ℕ)) (so_far : AreDoneTo start config number left lines) where
  module _ (line rest : List ℕ) (next : IsNextLine left line rest) where
    abbrev at_next : (others : List (List ℕ)) × (so_far.others ≡ line ∷ others) × (rest ≡ after_line_feeds others)
    at_next = next_of so_far.others left line rest so_far.are_lines so_far.left_is next

    abbrev this : NumberedLine
    this = record { number = number + 1; text = line }

    number_is : 1 + length so_far.done ≡ number + 1
    number_is = let count = so_far.count in omega arith

    all_is : lines ≡ (so_far.done ++ line ∷ []) ++ at_next.0
    all_is = so_far.all ∙ ap (λ (ls : List (List ℕ)). so_far.done ++ ls) at_next.1 ∙ sym (append_assoc so_far.done (line ∷ []) at_next.0)

    numbered_is : numbered 1 (so_far.done ++ line ∷ []) ≡ numbered 1 so_far.done ++ this ∷ []
    numbered_is = numbered-append 1 so_far.done (line ∷ []) ∙ ap (λ k. numbered 1 so_far.done ++ numbered k (line ∷ [])) number_is

    pub line_done : (after : List Group) → IsDone config line after → AreDoneTo start after (number + 1) rest lines
    line_done after is = record {
      done = so_far.done ++ line ∷ [];
      others = at_next.0;
      all = all_is;
      are_lines = All-tail (Lacks 10) line at_next.0 (subst (All (Lacks 10)) at_next.1 so_far.are_lines);
      left_is = at_next.2;
      count = let count = so_far.count in omega (arith, length-append so_far.done (line ∷ []));
      leads = λ text agrees.
          let now = so_far.leads text agrees in
          let then = is now.0 now.2 in (
            then.0,
            subst (λ ls. LeadBy IsProgramFor text ls then.0) (sym numbered_is) (lead_on IsProgramFor (numbered 1 so_far.done) text now.0 then.0 this now.1 then.1),
            then.2,
          );
    }

    fault_at : (fault : LineFault) → IsLineFault config line fault → IsFaultAt start lines (number + 1) fault
    fault_at (failure_of.Refused why) is = λ text agrees.
        let now = so_far.leads text agrees in
        record {
          earlier = numbered 1 so_far.done;
          line = this;
          later = numbered (1 + length (so_far.done ++ line ∷ [])) at_next.0;
          mid = now.0;
          all =
              ap (numbered 1) all_is
              ∙ numbered-append 1 (so_far.done ++ line ∷ []) at_next.0
              ∙ ap (λ (ls : List NumberedLine). ls ++ numbered (1 + length (so_far.done ++ line ∷ [])) at_next.0) numbered_is
              ∙ append_assoc (numbered 1 so_far.done) (this ∷ []) (numbered (1 + length (so_far.done ++ line ∷ [])) at_next.0);
          lead = now.1;
          refused = is now.0 now.2;
          number_is = refl;
        }
    fault_at failure_of.OutOfMemory is = tt

    pub line_failed : (fault : BlockFault) → fault.line ≡ number + 1 → IsLineFault config line fault.fault → IsFirstFault start lines fault
    line_failed fault same is = subst (λ n. IsFaultAt start lines n fault.fault) (sym same) (fault_at fault.fault is)

  module _ (none_left : left ≡ []) where
    none_of : (others : List (List ℕ)) → left ≡ after_line_feeds others → others ≡ []
    none_of [] is = refl
    none_of (line ∷ others) is = let none : 10 ∷ (line ++ after_line_feeds others) ≡ [] = sym is ∙ none_left in absurd (cc)

    all_done_lines : lines ≡ so_far.done
    all_done_lines = so_far.all ∙ ap (λ (ls : List (List ℕ)). so_far.done ++ ls) (none_of so_far.others so_far.left_is) ∙ append-nil so_far.done

    pub all_done : AreDone start lines config
    all_done = subst (λ ls. AreDone start ls config) (sym all_done_lines) so_far.leads
