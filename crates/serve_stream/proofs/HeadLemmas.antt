-- The first lines of blocks, and the lines after them.
use Rattle.std.proofs.Common.{◌≡◌, ◌∙◌, ◌++◌, ◌∷◌, List, [], ap, append_assoc, append-nil, arith, refl, subst, sym, ℕ}
use Rattle.std.proofs.lemmas.List.Concat.{flat_map-append}
use Rattle.ipv4_fields.specs.Cut.{Lacks}
use Rattle.ipv4_fields.proofs.TextLemmas.{has_separator}
use Rattle.control_line.specs.declared.head.Head.{Head}
use Rattle.control_line.specs.Block.{EndsLine, HasHead, IsHead, after_line_feeds, head_text}

pub lacks-none : (s : ℕ) → Lacks s []
lacks-none s k inside = absurd (omega arith)

-- a line that has a head is this head
line_head : (text : List ℕ) (head : Head) (rest : List ℕ) → Lacks 10 text → HasHead text head rest → text ≡ head_text head
line_head text head [] lacks has = has.whole ∙ append-nil (head_text head)
line_head text head (x ∷ rest) lacks has =
    let is : text ≡ head_text head ++ 10 ∷ rest = has.whole ∙ ap (λ byte. head_text head ++ byte ∷ rest) has.ends_line in
    absurd (has_separator 10 (head_text head) rest (subst (Lacks 10) is lacks))

-- a line that is no head has none
pub no_head : (text : List ℕ) → Lacks 10 text → ((head : Head) → IsHead head → text ≡ head_text head → ⊥) → (head : Head) (rest : List ℕ) → HasHead text head rest → ⊥
no_head text lacks none head rest has = none head has.is_head (line_head text head rest lacks has)

-- ---- lines, each after an LF

pub ends_line : (lines : List (List ℕ)) → EndsLine (after_line_feeds lines)
ends_line [] = tt
ends_line (line ∷ lines) = refl

pub feeds_more : (lines : List (List ℕ)) (last : List ℕ) → after_line_feeds (lines ++ last ∷ []) ≡ after_line_feeds lines ++ 10 ∷ last
feeds_more lines last =
    flat_map-append (λ (line : List ℕ). 10 ∷ line) lines (last ∷ []) ∙ ap (λ rest. after_line_feeds lines ++ rest) (append-nil (10 ∷ last))

pub with_lines : (text : List ℕ) (head : Head) (lines : List (List ℕ)) → IsHead head → text ≡ head_text head ++ after_line_feeds lines → HasHead text head (after_line_feeds lines)
with_lines text head lines is whole = record { is_head = is; whole = whole; ends_line = ends_line lines }

-- more of the last line
pub feeds_longer : (lines : List (List ℕ)) (last more : List ℕ) → after_line_feeds (lines ++ last ∷ []) ++ more ≡ after_line_feeds (lines ++ (last ++ more) ∷ [])
feeds_longer lines last more =
    ap (λ t. t ++ more) (feeds_more lines last) ∙ (append_assoc (after_line_feeds lines) (10 ∷ last) more ∙ sym (feeds_more lines (last ++ more)))

module _ (text : List ℕ) (head : Head) (lines : List (List ℕ)) where
  pub longer : (last more : List ℕ) → HasHead text head (after_line_feeds (lines ++ last ∷ [])) → HasHead (text ++ more) head (after_line_feeds (lines ++ (last ++ more) ∷ []))
  longer last more has =
      with_lines (text ++ more) head (lines ++ (last ++ more) ∷ []) has.is_head
      (ap (λ t. t ++ more) has.whole ∙ (append_assoc (head_text head) (after_line_feeds (lines ++ last ∷ [])) more ∙ ap (λ t. head_text head ++ t) (feeds_longer lines last more)))

  -- the next line
  pub next_line : IsHead head → text ≡ head_text head ++ after_line_feeds lines → HasHead (text ++ 10 ∷ []) head (after_line_feeds (lines ++ [] ∷ []))
  next_line is whole =
      with_lines (text ++ 10 ∷ []) head (lines ++ [] ∷ []) is
      (ap (λ t. t ++ 10 ∷ []) whole ∙ (append_assoc (head_text head) (after_line_feeds lines) (10 ∷ []) ∙ ap (λ t. head_text head ++ t) (sym (feeds_more lines []))))
