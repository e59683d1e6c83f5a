-- A line that is read, the lines of a script, and requests that were given one after the other.
use Rattle.std.proofs.Common.{◌≡◌, ◌∙◌, ◌==◌, ◌++◌, ◌∷◌, Bool, List, None, Option, Some, [], ap, append_assoc, append-nil, arith, drop, eqb-true, false, length, not, refl, subst, suc, sym, take, true, ◌+◌, ◌-◌, ℕ}
use Rattle.std.proofs.Math.Seq.{drop-append-add}
use Rattle.std.proofs.lemmas.List.{drop-drop, length-drop, take_all}
use Rattle.std.specs.Io.KnownBytes.{Consumes, IsAtEnd}
use Rattle.ipv4_fields.specs.Cut.{Lacks}
use Rattle.ipv4_fields.proofs.TextLemmas.{lacks-append}
use Rattle.control_line.specs.Answer.{NumberedLine}
use Rattle.control_line.specs.Block.{EndsLine}
use Rattle.control_line.specs.Rules.{is_skipped, lines_in, rules_from, without_return}
use Rattle.control_line.proofs.RulesLemmas.{lines_in-cut, lines_in-last}
use Rattle.control_client.specs.Lines.{AreAll, AreFirst, AreNone, AreRequests, GivesNext, LosesLine, LosesRequest, Request, lines_known, next_request, no_request, script_after}
use Rattle.control_client.specs.body.Unread.{TakesLine, left_of}

-- these requests were given
abbrev pub Gave : Option (List NumberedLine) → Option (List NumberedLine) → List Request → Type 0
Gave None later requests = Unit {0}
Gave (Some coming) None requests = ⊥
Gave (Some coming) (Some later) requests = AreRequests coming later requests

pub gave_nothing : (coming : Option (List NumberedLine)) → Gave coming coming []
gave_nothing None = tt
gave_nothing (Some lines) = no_request

pub gave_request : (before mid after : Option (List NumberedLine)) (requests : List Request) (request : Request) → Gave before mid requests → LosesRequest mid after request
    → Gave before after (requests ++ request ∷ [])
gave_request None mid after requests request one two = tt
gave_request (Some a) None after requests request one two = absurd one
gave_request (Some a) (Some b) None requests request one two = absurd two
gave_request (Some a) (Some b) (Some c) requests request one two = next_request b c requests request one two

pub gave_all : (before mid after : Option (List NumberedLine)) (requests : List Request) → Gave before mid requests → AreNone mid after → AreAll before requests
gave_all None mid after requests one none = tt
gave_all (Some a) None after requests one none = absurd one
gave_all (Some a) (Some b) None requests one none = absurd none
gave_all (Some a) (Some b) (Some c) requests one none = subst (λ (left : List NumberedLine). AreRequests a left requests) none.0 one

pub gave_first : (before after : Option (List NumberedLine)) (requests : List Request) → Gave before after requests → AreFirst before requests
gave_first None after requests one = tt
gave_first (Some a) None requests one = absurd one
gave_first (Some a) (Some b) requests one = (b, one)

-- ---- a line that is read

-- behind the first line of the bytes that are left, if that ends there
pub behind_line : (bytes first rest : List ℕ) (taken : ℕ) → take (length bytes - taken) (drop taken bytes) ≡ first ++ rest → EndsLine rest
    → (length rest == 0) ≡ false → drop taken bytes ≡ first ++ 10 ∷ drop (taken + (length first + 1)) bytes
behind_line bytes first [] taken cut ends some = absurd (let never : true ≡ false = some in cc)
behind_line bytes first (x ∷ more) taken cut ends some =
    let whole : drop taken bytes ≡ first ++ x ∷ more = sym (take_all (length bytes - taken) (drop taken bytes) (let same = length-drop taken bytes in omega arith)) ∙ cut in
    whole ∙ ap (λ (b : ℕ). first ++ b ∷ more) ends
    ∙ ap (λ (l : List ℕ). first ++ 10 ∷ l) (sym (sym (drop-drop (length first + 1) taken bytes)
    ∙ ap (drop (length first + 1)) whole ∙ drop-append-add first (x ∷ more) 1))

pub left_of-nil : (coming : Option (List ℕ)) → left_of [] coming ≡ coming
left_of-nil None = refl
left_of-nil (Some text) = refl

-- the bytes that were read, and those that the input still has, are the same after a read
pub left_filled : (coming coming' : Option (List ℕ)) (unread : List ℕ) (start : Option (List ℕ)) (line : List ℕ) → Consumes coming coming' unread
    → Consumes start (left_of [] coming) line → Consumes start (left_of unread coming') line
left_filled coming coming' unread None line gave read = tt
left_filled None coming' unread (Some text) line gave read = absurd read
left_filled (Some more) None unread (Some text) line gave read = absurd gave
left_filled (Some more) (Some later) unread (Some text) line gave read = read ∙ ap (λ (rest : List ℕ). line ++ rest) gave

-- bytes were taken of those that were read
pub left_taken : (coming start : Option (List ℕ)) (unread unread' line part : List ℕ) → unread ≡ part ++ unread' → Consumes start (left_of unread coming) line
    → Consumes start (left_of unread' coming) (line ++ part)
left_taken coming None unread unread' line part is read = tt
left_taken None (Some text) unread unread' line part is read = absurd read
left_taken (Some more) (Some text) unread unread' line part is read =
    read ∙ ap (λ (u : List ℕ). line ++ (u ++ more)) is ∙ ap (λ (rest : List ℕ). line ++ rest) (append_assoc part unread' more) ∙ sym (append_assoc line part (unread' ++ more))

-- a line ended at its LF
pub line_ended : (coming start : Option (List ℕ)) (unread unread' line part : List ℕ) → unread ≡ part ++ 10 ∷ unread' → Lacks 10 line → Lacks 10 part
    → Consumes start (left_of unread coming) line → LosesLine (lines_known start) (lines_known (left_of unread' coming)) (line ++ part)
line_ended coming None unread unread' line part is lacks lacks' read = tt
line_ended None (Some text) unread unread' line part is lacks lacks' read = absurd read
line_ended (Some more) (Some text) unread unread' line part is lacks lacks' read =
    ap lines_in (read ∙ ap (λ (u : List ℕ). line ++ (u ++ more)) is ∙ ap (λ (rest : List ℕ). line ++ rest) (append_assoc part (10 ∷ unread') more)
    ∙ sym (append_assoc line part (10 ∷ (unread' ++ more))))
    ∙ lines_in-cut (line ++ part) (unread' ++ more) (lacks-append 10 line part lacks lacks')

by_test : (empty : Bool) → false ≡ not empty → empty ≡ true
by_test true is = refl
by_test false is = absurd (let never : false ≡ true = is in cc)

has_bytes : (x : ℕ) (line : List ℕ) → (length (x ∷ line) == 0) ≡ true → ⊥
has_bytes x line is = let none = eqb-true (length (x ∷ line)) 0 is in omega arith

-- the input ended behind a line without LF, or behind an LF
pub input_ended : (coming start : Option (List ℕ)) (line : List ℕ) (some : Bool) → IsAtEnd coming → Lacks 10 line → Consumes start (left_of [] coming) line
    → some ≡ not (length line == 0) → GivesNext (lines_known start) (lines_known (left_of [] coming)) line some
input_ended coming None line true at_end lacks read is = tt
input_ended coming None line false at_end lacks read is = tt
input_ended None (Some text) line true at_end lacks read is = absurd read
input_ended None (Some text) line false at_end lacks read is = absurd read
input_ended (Some more) (Some text) [] true at_end lacks read is = absurd (let never : true ≡ false = is in cc)
input_ended (Some more) (Some text) [] false at_end lacks read is = (ap lines_in (read ∙ at_end), ap lines_in at_end)
input_ended (Some more) (Some text) (x ∷ line) false at_end lacks read is = absurd (has_bytes x line (by_test (length (x ∷ line) == 0) is))
input_ended (Some more) (Some text) (x ∷ line) true at_end lacks read is =
    ap lines_in (read ∙ ap (λ (rest : List ℕ). (x ∷ line) ++ rest) at_end ∙ append-nil (x ∷ line)) ∙ lines_in-last x line lacks
    ∙ ap (λ (rest : List ℕ). (x ∷ line) ∷ lines_in rest) (sym at_end)

-- the bytes that were read have no LF, and there are no others
pub input_over : (coming coming' start : Option (List ℕ)) (unread unread' filled line line' : List ℕ) (empty : Bool) → Lacks 10 line
    → Consumes start (left_of unread coming) line → TakesLine unread unread' line line' false → Consumes coming coming' filled → (filled ≡ []) × IsAtEnd coming'
    → empty ≡ (length line' == 0) → GivesNext (lines_known start) (lines_known (left_of filled coming')) line' (not empty)
input_over coming coming' start unread unread' filled line line' empty lacks read took gave over is =
    let all : Consumes start (left_of filled coming') (line ++ unread) =
    left_filled coming coming' filled start (line ++ unread) gave (left_taken coming start unread [] line unread (sym (append-nil unread)) read) in
    subst (λ (f : List ℕ). GivesNext (lines_known start) (lines_known (left_of f coming')) line' (not empty)) (sym over.0)
    (subst (λ (l : List ℕ). GivesNext (lines_known start) (lines_known (left_of [] coming')) l (not empty)) (sym took.2)
    (input_ended coming' start (line ++ unread) (not empty) over.1 (lacks-append 10 line unread lacks took.0)
    (subst (λ (f : List ℕ). Consumes start (left_of f coming') (line ++ unread)) over.0 all)
    (ap not (is ∙ ap (λ (l : List ℕ). length l == 0) took.2))))

-- ---- the lines of a script

-- one line more was read
module _ (read next : ℕ) (is_next : next ≡ suc read) where
  pub script_skips : (before after : Option (List ℕ)) (line : List ℕ) → LosesLine (lines_known before) (lines_known after) line → is_skipped line ≡ true
      → (before ≡ None → ⊥) → script_after read before ≡ script_after next after
  script_skips None after line lost skipped known = absurd (known refl)
  script_skips (Some text) None line lost skipped known = absurd lost
  script_skips (Some text) (Some more) line lost skipped known =
      ap (λ (lines : List NumberedLine). Some lines) (ap (rules_from (suc read)) lost ∙ skips line (lines_in more) skipped
      ∙ ap (λ (number : ℕ). rules_from (suc number) (lines_in more)) (sym is_next))
    where
      skips : (line : List ℕ) (rest : List (List ℕ)) → is_skipped line ≡ true → rules_from (suc read) (line ∷ rest) ≡ rules_from (suc (suc read)) rest
      skips line rest skipped = simp skipped refl

  pub script_tells : (before after : Option (List ℕ)) (line : List ℕ) → LosesLine (lines_known before) (lines_known after) line → is_skipped line ≡ false
      → LosesLine (script_after read before) (script_after next after) (record { number = next; text = without_return line })
  script_tells None after line lost told = tt
  script_tells (Some text) None line lost told = absurd lost
  script_tells (Some text) (Some more) line lost told =
      ap (rules_from (suc read)) lost ∙ tells line (lines_in more) told
      ∙ ap (λ (number : ℕ). record { number = number; text = without_return line } ∷ rules_from (suc number) (lines_in more)) (sym is_next)
    where
      tells : (line : List ℕ) (rest : List (List ℕ)) → is_skipped line ≡ false
          → rules_from (suc read) (line ∷ rest) ≡ record { number = suc read; text = without_return line } ∷ rules_from (suc (suc read)) rest
      tells line rest told = simp told refl

pub script_ends : (read : ℕ) (before after : Option (List ℕ)) → AreNone (lines_known before) (lines_known after) → AreNone (script_after read before) (script_after read after)
script_ends read None after none = tt
script_ends read (Some text) None none = absurd none
script_ends read (Some text) (Some more) none = (ap (rules_from (suc read)) none.0, ap (rules_from (suc read)) none.1)

-- lines were skipped, if the text is known
abbrev pub Skips : ℕ → Option (List ℕ) → ℕ → Option (List ℕ) → Type 0
Skips begin None read now = Unit {0}
Skips begin (Some text) read now = script_after begin (Some text) ≡ script_after read now

pub skips_none : (begin : ℕ) (text : Option (List ℕ)) → Skips begin text begin text
skips_none begin None = tt
skips_none begin (Some text) = refl

pub skips_more : (begin read next : ℕ) → next ≡ suc read → (before now after : Option (List ℕ)) (line : List ℕ) → Skips begin before read now
    → LosesLine (lines_known now) (lines_known after) line → is_skipped line ≡ true → Skips begin before next after
skips_more begin read next is_next None now after line so_far lost skipped = tt
skips_more begin read next is_next (Some text) None after line so_far lost skipped = absurd (cc)
skips_more begin read next is_next (Some text) (Some more) after line so_far lost skipped =
    so_far ∙ script_skips read next is_next (Some more) after line lost skipped (λ none. absurd (cc))

pub skipped_then_told : (begin read next : ℕ) → next ≡ suc read → (before now after : Option (List ℕ)) (line : List ℕ) → Skips begin before read now
    → LosesLine (lines_known now) (lines_known after) line → is_skipped line ≡ false
    → LosesLine (script_after begin before) (script_after next after) (record { number = next; text = without_return line })
skipped_then_told begin read next is_next None now after line so_far lost told = tt
skipped_then_told begin read next is_next (Some text) now after line so_far lost told =
    subst (λ (lines : Option (List NumberedLine)). LosesLine lines (script_after next after) (record { number = next; text = without_return line })) (sym so_far)
    (script_tells read next is_next now after line lost told)

pub skipped_then_none : (begin read : ℕ) (before now after : Option (List ℕ)) → Skips begin before read now → AreNone (lines_known now) (lines_known after)
    → AreNone (script_after begin before) (script_after read after)
skipped_then_none begin read None now after so_far none = tt
skipped_then_none begin read (Some text) now after so_far none =
    subst (λ (lines : Option (List NumberedLine)). AreNone lines (script_after read after)) (sym so_far) (script_ends read now after none)

-- ---- a line's CR

front_of : (byte : ℕ) (ends : Bool) → (byte == 13) ≡ ends → take (length (without_return (byte ∷ []))) (byte ∷ []) ≡ without_return (byte ∷ [])
front_of byte true is = simp is refl
front_of byte false is = simp is refl

pub take-without_return : (line : List ℕ) → take (length (without_return line)) line ≡ without_return line
take-without_return [] = refl
take-without_return (byte ∷ []) = front_of byte (byte == 13) refl
take-without_return (byte ∷ next ∷ rest) = ap (λ (line : List ℕ). byte ∷ line) (take-without_return (next ∷ rest))
