-- A text as lines that each stand after an LF, and as one request.
use Rattle.std.proofs.Common.{◌≡◌, ◌≢◌, ◌∙◌, ◌<◌, ◌≤◌, ◌==◌, ◌++◌, ◌∷◌, Bool, List, [], ap, append-nil, arith, eq-eqb, eqb-true, false, length, not-suc-le-zero, refl, subst, suc, sym, true, zero, ℕ}
use Rattle.std.proofs.lemmas.Bool.{both_ways}
use Rattle.std.proofs.lemmas.List.Elements.{All-cons, All-nil}
use Rattle.std.specs.List.{All}
use Rattle.ipv4_fields.specs.Cut.{Lacks}
use Rattle.control_line.specs.Block.{EndsLine, HasHead, IsHead, after_line_feeds, head_text}
use Rattle.control_line.specs.declared.TheConstants.{BLOCK_LIMIT, LINE_LIMIT}
use Rattle.control_line.specs.declared.head.Head.{Head}
use Rattle.control_client.specs.Carried.{HasFirstLine, IsOneRequest, IsSplitByStream, IsTooLongForStream, broken_line, long_block, long_line, one_block, one_line, wrong_count}
use Rattle.control_client.specs.Lines.{IsNoHead}
use Rattle.control_client.specs.body.Feeds.{feeds_in}

lacks-nil : (byte : ℕ) → Lacks byte []
lacks-nil byte k below = absurd (not-suc-le-zero below)

lacks-cons : (byte other : ℕ) (rest : List ℕ) → other ≢ byte → Lacks byte rest → Lacks byte (other ∷ rest)
lacks-cons byte other rest differs lacks zero below = differs
lacks-cons byte other rest differs lacks (suc k) below = lacks k (omega arith)

-- a text up to its first LF, and the lines after it
record Pieces (text : List ℕ) : Type 0 where
  first : List ℕ
  lines : List (List ℕ)
  lacks : Lacks 10 first
  are_lines : All (Lacks 10) lines
  whole : text ≡ first ++ after_line_feeds lines
  count : length lines ≡ feeds_in text

one_more_byte : (byte : ℕ) (rest : List ℕ) (ends : Bool) → (byte == 10) ≡ ends → Pieces rest → Pieces (byte ∷ rest)
one_more_byte byte rest true is pieces = record {
  first = [];
  lines = pieces.first ∷ pieces.lines;
  lacks = lacks-nil 10;
  are_lines = All-cons (Lacks 10) pieces.first pieces.lines pieces.lacks pieces.are_lines;
  whole = ap (λ (b : ℕ). b ∷ rest) (eqb-true byte 10 is) ∙ ap (λ (r : List ℕ). 10 ∷ r) pieces.whole;
  count = simp is (omega (arith, pieces.count));
}
one_more_byte byte rest false is pieces = record {
  first = byte ∷ pieces.first;
  lines = pieces.lines;
  lacks = lacks-cons 10 byte pieces.first (λ same. both_ways (byte == 10) is (eq-eqb byte 10 same)) pieces.lacks;
  are_lines = pieces.are_lines;
  whole = ap (λ (r : List ℕ). byte ∷ r) pieces.whole;
  count = simp is pieces.count;
}

pieces_of : (text : List ℕ) → Pieces text
pieces_of [] = record { first = []; lines = []; lacks = lacks-nil 10; are_lines = All-nil (Lacks 10); whole = refl; count = refl }
pieces_of (byte ∷ rest) = one_more_byte byte rest (byte == 10) refl (pieces_of rest)

-- as many lines as LFs
record Lines (text : List ℕ) : Type 0 where
  pub lines : List (List ℕ)
  pub are_lines : All (Lacks 10) lines
  pub whole : text ≡ after_line_feeds lines
  pub count : length lines ≡ feeds_in text

lines_after : (text : List ℕ) → EndsLine text → Lines text
lines_after [] ends = record { lines = []; are_lines = All-nil (Lacks 10); whole = refl; count = refl }
lines_after (byte ∷ rest) ends =
    let pieces : Pieces rest = pieces_of rest in
    let at : byte ≡ 10 = ends in
    subst (λ (b : ℕ). Lines (b ∷ rest)) (sym at) (record {
      lines = pieces.first ∷ pieces.lines;
      are_lines = All-cons (Lacks 10) pieces.first pieces.lines pieces.lacks pieces.are_lines;
      whole = ap (λ (r : List ℕ). 10 ∷ r) pieces.whole;
      count = omega (arith, pieces.count);
    })

-- ---- one request, or none

has_head : (text first rest : List ℕ) (head : Head) → HasFirstLine text first rest → IsHead head → first ≡ head_text head → HasHead text head rest
has_head text first rest head cut is_head is = record {
  is_head = is_head;
  whole = cut.whole ∙ ap (λ (f : List ℕ). f ++ rest) is;
  ends_line = cut.ends_line;
}

module _ (text first rest : List ℕ) (cut : HasFirstLine text first rest) where
  pub line_too_long : IsNoHead first → LINE_LIMIT < length text → IsTooLongForStream text
  line_too_long no_head long = long_line first rest cut no_head long

  pub line_broken : IsNoHead first → rest ≢ [] → length text ≤ LINE_LIMIT → IsSplitByStream text
  line_broken no_head more short = broken_line first rest cut no_head more short

  pub line_carried : IsNoHead first → rest ≡ [] → length text ≤ LINE_LIMIT → IsOneRequest text
  line_carried no_head none short =
      let whole : text ≡ first = cut.whole ∙ ap (λ (r : List ℕ). first ++ r) none ∙ append-nil first in
      one_line (subst (Lacks 10) (sym whole) cut.lacks) (subst IsNoHead (sym whole) no_head) short

  module _ (head : Head) (is_head : IsHead head) (is : first ≡ head_text head) where
    pub block_too_long : BLOCK_LIMIT < length rest → IsTooLongForStream text
    block_too_long long = long_block head rest (has_head text first rest head cut is_head is) long

    pub block_carried : feeds_in rest ≡ head.count → length rest ≤ BLOCK_LIMIT → IsOneRequest text
    block_carried count short =
        let lines : Lines rest = lines_after rest cut.ends_line in
        one_block head lines.lines (record {
          has_head = subst (λ (r : List ℕ). HasHead text head r) lines.whole (has_head text first rest head cut is_head is);
          are_lines = lines.are_lines;
          count = lines.count ∙ count;
        }) (subst (λ (r : List ℕ). length r ≤ BLOCK_LIMIT) lines.whole short)

    pub block_broken : feeds_in rest ≢ head.count → length rest ≤ BLOCK_LIMIT → IsSplitByStream text
    block_broken count short =
        let lines : Lines rest = lines_after rest cut.ends_line in
        wrong_count head lines.lines (subst (λ (r : List ℕ). HasHead text head r) lines.whole (has_head text first rest head cut is_head is))
        lines.are_lines (λ same. count (sym lines.count ∙ same)) (subst (λ (r : List ℕ). length r ≤ BLOCK_LIMIT) lines.whole short)
