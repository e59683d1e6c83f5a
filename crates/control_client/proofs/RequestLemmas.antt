-- Requests that are made of lines.
use Rattle.std.proofs.Common.{◌≡◌, ◌∙◌, ◌+◌, ◌<◌, ◌++◌, ◌∷◌, List, None, Option, Some, [], ap, append-nil, append_assoc, arith, decimal, false, inl, inr, length, length-append, refl, subst, sym, true, ℕ}
use Rattle.std.proofs.lemmas.Grind.{flat_map-append}
use Rattle.std.proofs.lemmas.List.{map-append}
use Rattle.control_line.specs.Answer.{NumberedLine}
use Rattle.control_line.specs.Block.{IsHead, after_line_feeds, head_text}
use Rattle.control_line.specs.declared.head.Head.{Head}
use Rattle.control_client.specs.Lines.{AreNone, AreNumbersOf, IsBlockOf, IsNextRequest, IsNoHead, LosesLine, LosesRequest, Request, block, cut, numbers_of, single, texts_of}
use Rattle.control_client.specs.body.Collecting.{Adds, AddsAll, AddsLine, AddsSome, AddsUpTo, Collected}

pub adds_nothing : (coming : Option (List NumberedLine)) (start : Collected) → AddsSome 0 coming coming start start
adds_nothing None start = tt
adds_nothing (Some lines) start =
    ([], record { given = refl; added = record { text = sym (append-nil start.text); numbers = sym (append-nil start.numbers) } }, refl)

-- a line that was given is added
pub line_added : (before after : Option (List NumberedLine)) (line : NumberedLine) (start end : Collected) (ended : List ℕ) → LosesLine before after line
    → ended ≡ start.text ++ 10 ∷ [] → end.text ≡ ended ++ line.text → end.numbers ≡ start.numbers ++ line.number ∷ [] → AddsLine before after start end true
line_added None after line start end ended given one two three = tt
line_added (Some a) None line start end ended given one two three = absurd given
line_added (Some a) (Some b) line start end ended given one two three = (
  line,
  record {
    given = given;
    added = record {
      text = two ∙ ap (λ (t : List ℕ). t ++ line.text) one ∙ append_assoc start.text (10 ∷ []) line.text ∙ ap (λ (t : List ℕ). start.text ++ 10 ∷ t) (sym (append-nil line.text));
      numbers = three;
    };
  },
)

pub no_line_added : (before after : Option (List NumberedLine)) (start : Collected) → AreNone before after → AddsLine before after start start false
no_line_added None after start none = tt
no_line_added (Some a) None start none = absurd none
no_line_added (Some a) (Some b) start none = (none.0, none.1, refl)

texts_more : (lines more : List NumberedLine) → after_line_feeds (texts_of (lines ++ more)) ≡ after_line_feeds (texts_of lines) ++ after_line_feeds (texts_of more)
texts_more lines more =
    ap after_line_feeds (map-append (λ (line : NumberedLine). line.text) lines more) ∙ flat_map-append (λ (l : List ℕ). 10 ∷ l) (texts_of lines) (texts_of more)

numbers_more : (lines more : List NumberedLine) → numbers_of (lines ++ more) ≡ numbers_of lines ++ numbers_of more
numbers_more lines more = map-append (λ (line : NumberedLine). line.number) lines more

-- lines and more lines
adds_both : (lines more : List NumberedLine) (start mid end : Collected) → Adds lines start mid → Adds more mid end → Adds (lines ++ more) start end
adds_both lines more start mid end one two = record {
  text = two.text ∙ ap (λ (t : List ℕ). t ++ after_line_feeds (texts_of more)) one.text
      ∙ append_assoc start.text (after_line_feeds (texts_of lines)) (after_line_feeds (texts_of more)) ∙ ap (λ (t : List ℕ). start.text ++ t) (sym (texts_more lines more));
  numbers = two.numbers ∙ ap (λ (t : List ℕ). t ++ numbers_of more) one.numbers
      ∙ append_assoc start.numbers (numbers_of lines) (numbers_of more) ∙ ap (λ (t : List ℕ). start.numbers ++ t) (sym (numbers_more lines more));
}

-- so many, and one more
pub adds_more : (count : ℕ) (before mid after : Option (List NumberedLine)) (start now end : Collected) → AddsSome count before mid start now → AddsLine mid after now end true
    → AddsSome (count + 1) before after start end
adds_more count None mid after start now end one two = tt
adds_more count (Some a) None after start now end one two = absurd one
adds_more count (Some a) (Some b) None start now end one two = absurd two
adds_more count (Some a) (Some b) (Some c) start now end (lines, added, count_is) (line, more) = (
  lines ++ line ∷ [],
  record {
    given = added.given ∙ ap (λ (l : List NumberedLine). lines ++ l) more.given ∙ sym (append_assoc lines (line ∷ []) c);
    added = adds_both lines (line ∷ []) start now end added.added more.added;
  },
  omega (arith, count_is, length-append lines (line ∷ [])),
)

-- as many as were wanted
pub adds_whole : (count : ℕ) (before after : Option (List NumberedLine)) (start end : Collected) → AddsSome count before after start end → AddsUpTo count before after start end
adds_whole count None after start end one = tt
adds_whole count (Some a) None start end one = absurd one
adds_whole count (Some a) (Some b) start end (lines, added, count_is) = (lines, added, inl count_is)

-- or fewer
pub adds_fewer : (count most : ℕ) (before mid after : Option (List NumberedLine)) (start now end : Collected) → AddsSome count before mid start now → count < most
    → AddsLine mid after now end false → AddsUpTo most before after start end
adds_fewer count most None mid after start now end one few none = tt
adds_fewer count most (Some a) None after start now end one few none = absurd one
adds_fewer count most (Some a) (Some b) None start now end one few none = absurd none
adds_fewer count most (Some a) (Some b) (Some c) start now end (lines, added, count_is) few (ended, left, same) = (
  lines,
  record {
    given = added.given ∙ ap (λ (l : List NumberedLine). lines ++ l) (ended ∙ sym left);
    added = subst (λ (e : Collected). Adds lines start e) (sym same) added.added;
  },
  inr (omega (arith, count_is), left),
)

-- or all
pub adds_all : (count : ℕ) (before mid after : Option (List NumberedLine)) (start now end : Collected) → AddsSome count before mid start now → AddsLine mid after now end false
    → AddsAll count before start end
adds_all count None mid after start now end one none = tt
adds_all count (Some a) None after start now end one none = absurd one
adds_all count (Some a) (Some b) None start now end one none = absurd none
adds_all count (Some a) (Some b) (Some c) start now end (lines, added, count_is) (ended, left, same) =
    let whole : a ≡ lines = added.given ∙ ap (λ (l : List NumberedLine). lines ++ l) ended ∙ append-nil lines in
    (subst (λ (e : Collected). Adds a start e) (sym same) (subst (λ (l : List NumberedLine). Adds l start now) (sym whole) added.added), ap length whole ∙ count_is)

-- ---- requests

pub single_request : (before after : Option (List NumberedLine)) (number : ℕ) (line numbers : List ℕ)
    → LosesLine before after (record { number = number; text = line }) → numbers ≡ [] → IsNoHead line
    → LosesRequest before after (record { head = Some number; lines = numbers; text = line })
single_request None after number line numbers given none no_head = tt
single_request (Some a) None number line numbers given none no_head = absurd given
single_request (Some a) (Some b) number line numbers given none no_head =
    subst (λ (lines : List NumberedLine). IsNextRequest lines b (record { head = Some number; lines = numbers; text = line })) (sym given)
    (subst (λ (ns : List ℕ). IsNextRequest (record { number = number; text = line } ∷ b) b (record { head = Some number; lines = ns; text = line })) (sym none)
    (single (record { number = number; text = line }) b no_head))

-- lines that were added to the first line of their block
module _ (before mid after : Option (List NumberedLine)) (number : ℕ) (head : Head) (line : List ℕ) (start end : Collected)
    (given : LosesLine before mid (record { number = number; text = line })) (is_head : IsHead head) (is : line ≡ head_text head)
    (empty : start.numbers ≡ []) (first : start.text ≡ line) (added : AddsUpTo head.count mid after start end) where
  made : (lines : List NumberedLine) → Adds lines start end
      → ◌≡◌ {A = Request} (record { head = Some number; lines = numbers_of lines; text = head_text head ++ after_line_feeds (texts_of lines) })
      (record { head = Some number; lines = end.numbers; text = end.text })
  made lines adds =
      let numbers : numbers_of lines ≡ end.numbers = sym (adds.numbers ∙ ap (λ (ns : List ℕ). ns ++ numbers_of lines) empty) in
      let text : head_text head ++ after_line_feeds (texts_of lines) ≡ end.text = sym (adds.text ∙ ap (λ (t : List ℕ). t ++ after_line_feeds (texts_of lines)) (first ∙ is)) in
      let with_numbers : List ℕ → Request = (λ ns. record { head = Some number; lines = ns; text = head_text head ++ after_line_feeds (texts_of lines) }) in
      let with_text : List ℕ → Request = (λ t. record { head = Some number; lines = end.numbers; text = t }) in
      ap with_numbers numbers ∙ ap with_text text

  pub block_request : LosesRequest before after (record { head = Some number; lines = end.numbers; text = end.text })
  block_request = by_lines before mid after given added
    where
      by_lines : (before mid after : Option (List NumberedLine)) → LosesLine before mid (record { number = number; text = line }) → AddsUpTo head.count mid after start end
          → LosesRequest before after (record { head = Some number; lines = end.numbers; text = end.text })
      by_lines None mid after given added = tt
      by_lines (Some a) None after given added = absurd given
      by_lines (Some a) (Some b) None given added = absurd added
      by_lines (Some a) (Some b) (Some c) given (lines, added, inl whole) =
          subst (λ (r : Request). IsNextRequest a c r) (made lines added.added)
          (subst (λ (before : List NumberedLine). IsNextRequest before c (record { head = Some number; lines = numbers_of lines; text = head_text head ++ after_line_feeds (texts_of lines) }))
          (sym (given ∙ ap (λ (l : List ℕ). record { number = number; text = l } ∷ b) is ∙ ap (λ (l : List NumberedLine). record { number = number; text = head_text head } ∷ l) added.given))
          (block number head lines c is_head whole))
      by_lines (Some a) (Some b) (Some c) given (lines, added, inr (few, left)) =
          let all : b ≡ lines = added.given ∙ ap (λ (l : List NumberedLine). lines ++ l) left ∙ append-nil lines in
          subst (λ (r : Request). IsNextRequest a c r) (made lines added.added)
          (subst (λ (before : List NumberedLine). IsNextRequest before c (record { head = Some number; lines = numbers_of lines; text = head_text head ++ after_line_feeds (texts_of lines) }))
          (sym (given ∙ ap (λ (l : List ℕ). record { number = number; text = l } ∷ b) is ∙ ap (λ (l : List NumberedLine). record { number = number; text = head_text head } ∷ l) all))
          (subst (λ (after : List NumberedLine). IsNextRequest (record { number = number; text = head_text head } ∷ lines) after (record { head = Some number; lines = numbers_of lines; text = head_text head ++ after_line_feeds (texts_of lines) })) (sym left)
          (cut number head lines is_head few)))

-- all lines, after the first line of their block
pub block_of_lines : (front : List ℕ) (before : Option (List NumberedLine)) (count : ℕ) (start end : Collected) (head request : List ℕ) → start.text ≡ [] → AddsAll count before start end
    → head ≡ front ++ decimal count → request ≡ head ++ end.text → IsBlockOf front before request
block_of_lines front None count start end head request empty added is whole = tt
block_of_lines front (Some lines) count start end head request empty (all, count_is) is whole =
    whole
    ∙ ap (λ (h : List ℕ). h ++ end.text) (is ∙ ap (λ (n : ℕ). front ++ decimal n) (sym count_is))
    ∙ append_assoc front (decimal (length lines)) end.text
    ∙ ap (λ (t : List ℕ). front ++ (decimal (length lines) ++ t)) (all.text ∙ ap (λ (s : List ℕ). s ++ after_line_feeds (texts_of lines)) empty)

-- and their numbers
pub numbers_of_lines : (before : Option (List NumberedLine)) (count : ℕ) (start end : Collected) → start.numbers ≡ [] → AddsAll count before start end → AreNumbersOf before end.numbers
numbers_of_lines None count start end empty added = tt
numbers_of_lines (Some lines) count start end empty (all, count_is) = all.numbers ∙ ap (λ (ns : List ℕ). ns ++ numbers_of lines) empty
