-- The lines of a text, and the replies that were counted of it.
use Rattle.std.proofs.Common.{◌≡◌, ◌≢◌, ◌∙◌, ◌==◌, ◌++◌, ◌∷◌, List, None, Option, Some, [], ap, append-nil, append_assoc, arith, refl, subst, suc, sym, ℕ}
use Rattle.std.proofs.lemmas.Bool.{cond-false, eqb-true, false_from_ne_true}
use Rattle.std.proofs.lemmas.List.Elements.{filter_map-append}
use Rattle.std.specs.List.{filter_map, flat_map}
use Rattle.std.specs.Prelude.{Err, IfOk, Ok, Result, Vec}
use Rattle.ipv4_fields.specs.Cut.{IsSplitAt, Lacks}
use Rattle.ipv4_fields.proofs.TextLemmas.{lacks-append}
use Rattle.control_summary.specs.Kind.{reply_kind}
use Rattle.control_summary.specs.Summary.{AreRows, IsSummaryOf, RowValue, grow_line, lines_of, row_text, kinds_in}
use Rattle.control_summary.specs.body.Counted.{EndsLines, IsAt}

-- ---- lines

in_line : (byte : ℕ) (rest : List ℕ) → byte ≢ 10 → lines_of (byte ∷ rest) ≡ grow_line byte (lines_of rest)
unfolding lines_of
in_line byte rest apart = cond-false (byte == 10) ([] ∷ lines_of rest) (grow_line byte (lines_of rest)) (false_from_ne_true (byte == 10) (λ is. apart (eqb-true byte 10 is)))

no_line : (text : List ℕ) → Lacks 10 text → lines_of text ≡ []
unfolding lines_of
no_line [] lacks = refl
no_line (byte ∷ rest) lacks =
    in_line byte rest (lacks 0 (omega arith)) ∙ ap (λ (lines : List (List ℕ)). grow_line byte lines) (no_line rest (λ k inside. lacks (suc k) (omega arith)))

-- the first line of a text, and those behind it
pub first_line : (line rest : List ℕ) → Lacks 10 line → lines_of (line ++ 10 ∷ rest) ≡ line ∷ lines_of rest
unfolding lines_of
first_line [] rest lacks = refl
first_line (byte ∷ line) rest lacks =
    in_line byte (line ++ 10 ∷ rest) (lacks 0 (omega arith)) ∙ ap (λ (lines : List (List ℕ)). grow_line byte lines) (first_line line rest (λ k inside. lacks (suc k) (omega arith)))

pub no_lines : lines_of [] ≡ []
unfolding lines_of
no_lines = refl

-- ---- what is counted

pub at_start : IsAt [] [] []
at_start = record {
  done = [];
  is = refl;
  ends = λ rest. ap (λ (lines : List (List ℕ)). lines ++ lines_of rest) (sym no_lines);
  lacks = λ k inside. absurd (omega arith);
  counted = subst (λ (lines : List (List ℕ)). AreRows (filter_map reply_kind lines) []) (sym no_lines) (record {
    rising = λ j k none before within. absurd (omega arith);
    each = λ k none within. absurd (omega arith);
    complete = λ k none within. absurd (omega arith);
  });
}

pub held_more : (text held bytes : List ℕ) (rows : List RowValue) → IsAt text held rows → Lacks 10 bytes → IsAt (text ++ bytes) (held ++ bytes) rows
held_more text held bytes rows at lacks = record {
  done = at.done;
  is = ap (λ (t : List ℕ). t ++ bytes) at.is ∙ append_assoc at.done held bytes;
  ends = at.ends;
  lacks = lacks-append 10 held bytes at.lacks lacks;
  counted = at.counted;
}

-- the summary is that of the whole text
pub all_counted : (text held : List ℕ) (rows : List RowValue) → IsAt text held rows → AreRows (kinds_in text) rows
all_counted text held rows at =
    let same : lines_of text ≡ lines_of at.done =
    ap lines_of at.is ∙ (at.ends held ∙ (ap (λ (lines : List (List ℕ)). lines_of at.done ++ lines) (no_line held at.lacks) ∙ append-nil (lines_of at.done))) in
    subst (λ (lines : List (List ℕ)). AreRows (filter_map reply_kind lines) rows) (sym same) at.counted

-- ---- a line ends

module _ (text held : List ℕ) (rows : List RowValue) (at : IsAt text held rows) where
  now : List ℕ
  now = at.done ++ (held ++ 10 ∷ [])

  now_lines : lines_of now ≡ lines_of at.done ++ held ∷ []
  unfolding now
  now_lines = at.ends (held ++ 10 ∷ []) ∙ ap (λ (lines : List (List ℕ)). lines_of at.done ++ lines) (first_line held [] at.lacks ∙ ap (λ (lines : List (List ℕ)). held ∷ lines) no_lines)

  now_ends : EndsLines now
  unfolding now
  now_ends rest =
      ap lines_of (append_assoc at.done (held ++ 10 ∷ []) rest ∙ ap (λ (t : List ℕ). at.done ++ t) (append_assoc held (10 ∷ []) rest))
      ∙ (at.ends (held ++ 10 ∷ rest)
      ∙ (ap (λ (lines : List (List ℕ)). lines_of at.done ++ lines) (first_line held rest at.lacks)
      ∙ (sym (append_assoc (lines_of at.done) (held ∷ []) (lines_of rest)) ∙ ap (λ (lines : List (List ℕ)). lines ++ lines_of rest) (sym now_lines))))

  now_is : text ++ 10 ∷ [] ≡ now ++ []
  unfolding now
  now_is = ap (λ (t : List ℕ). t ++ 10 ∷ []) at.is ∙ (append_assoc at.done held (10 ∷ []) ∙ sym (append-nil (at.done ++ (held ++ 10 ∷ []))))

  now_kinds : kinds_in now ≡ kinds_in at.done ++ filter_map reply_kind (held ∷ [])
  now_kinds = ap (filter_map reply_kind) now_lines ∙ filter_map-append reply_kind (lines_of at.done) (held ∷ [])

  ended : (rows' : List RowValue) → AreRows (kinds_in now) rows' → IsAt (text ++ 10 ∷ []) [] rows'
  ended rows' counted = record { done = now; is = now_is; ends = now_ends; lacks = λ k inside. absurd (omega arith); counted = counted }

  pub told_line : (kind : List ℕ) (rows' : List RowValue) → ◌≡◌ {A = Option (List ℕ)} (Some kind) (reply_kind held)
      → ((kinds : List (List ℕ)) → AreRows kinds rows → AreRows (kinds ++ kind ∷ []) rows') → IsAt (text ++ 10 ∷ []) [] rows'
  told_line kind rows' tells more =
      let one : filter_map reply_kind (held ∷ []) ≡ kind ∷ [] = simp (sym tells) refl in
      ended rows' (subst (λ (kinds : List (List ℕ)). AreRows kinds rows') (sym (now_kinds ∙ ap (λ (v : List (List ℕ)). kinds_in at.done ++ v) one)) (more (kinds_in at.done) at.counted))

  pub untold_line : ◌≡◌ {A = Option (List ℕ)} None (reply_kind held) → IsAt (text ++ 10 ∷ []) [] rows
  untold_line tells =
      let none : filter_map reply_kind (held ∷ []) ≡ [] = simp (sym tells) refl in
      ended rows (subst (λ (kinds : List (List ℕ)). AreRows kinds rows) (sym (now_kinds ∙ (ap (λ (v : List (List ℕ)). kinds_in at.done ++ v) none ∙ append-nil (kinds_in at.done)))) at.counted)

-- ---- bytes that are taken line by line

-- of the bytes, all but `left` were taken
pub record IsTakenUpTo (bytes left held : List ℕ) (rows : List RowValue) (held' : List ℕ) (rows' : List RowValue) : Type 0 where
  pub front : List ℕ
  pub is : bytes ≡ front ++ left
  pub so_far : (text : List ℕ) → IsAt text held rows → IsAt (text ++ front) held' rows'

module _ (bytes left held : List ℕ) (rows : List RowValue) (mid : List ℕ) (mid_rows : List RowValue) (before : IsTakenUpTo bytes left held rows mid mid_rows) where
  pub taken_line : (line behind : List ℕ) → IsSplitAt 10 left line behind → (after : List ℕ) (after_rows : List RowValue)
      → ((text : List ℕ) → IsAt text (mid ++ line) mid_rows → IsAt (text ++ 10 ∷ []) after after_rows) → IsTakenUpTo bytes behind held rows after after_rows
  taken_line line behind cut after after_rows ends = record {
    front = before.front ++ (line ++ 10 ∷ []);
    is = before.is
        ∙ (ap (λ (t : List ℕ). before.front ++ t) (cut.whole ∙ sym (append_assoc line (10 ∷ []) behind)) ∙ sym (append_assoc before.front (line ++ 10 ∷ []) behind));
    so_far = λ text at.
        subst (λ (t : List ℕ). IsAt t after after_rows) (append_assoc (text ++ before.front) line (10 ∷ []) ∙ append_assoc text before.front (line ++ 10 ∷ []))
        (ends ((text ++ before.front) ++ line) (held_more (text ++ before.front) mid line mid_rows (before.so_far text at) cut.lacks));
  }

  pub taken_all : Lacks 10 left → (text : List ℕ) → IsAt text held rows → IsAt (text ++ bytes) (mid ++ left) mid_rows
  taken_all lacks text at =
      subst (λ (t : List ℕ). IsAt t (mid ++ left) mid_rows) (append_assoc text before.front left ∙ ap (λ (t : List ℕ). text ++ t) (sym before.is))
      (held_more (text ++ before.front) mid left mid_rows (before.so_far text at) lacks)

-- ---- the summary

pub summary_told : (text held : List ℕ) (rows : List RowValue) → IsAt text held rows → {A E : Type 0} (result : Result (Vec ℕ A) E)
    → IfOk result (λ summary. summary.items ≡ flat_map row_text rows) → IfOk result (λ summary. IsSummaryOf text summary.items)
summary_told text held rows at (Ok summary) is = record { rows = rows; are_rows = all_counted text held rows at; is = is }
summary_told text held rows at (Err error) is = tt
