-- Requests, cut from a text one after the other.
use Rattle.std.proofs.Common.{◌≡◌, ◌∙◌, ◌≤◌, ◌++◌, ◌∷◌, List, [], ap, append_assoc, append-nil, arith, length, refl, sym, ℕ}
use Rattle.std.specs.List.{All}
use Rattle.std.proofs.lemmas.List.Concat.{flat_map-append}
use Rattle.std.proofs.lemmas.List.Elements.{All-head, All-nil, All-tail}
use Rattle.ipv4_fields.specs.Cut.{Lacks}
use Rattle.ipv4_fields.proofs.TextLemmas.{one_cut}
use Rattle.control_line.specs.declared.head.Head.{Head}
use Rattle.control_line.specs.Block.{EndsLine, HasHead, IsHead, after_line_feeds, head_text}
use Rattle.control.specs.Script.{BeginsRequest, IsRequest, in_block, in_line, is_block, is_line}
use Rattle.control.proofs.HeadLemmas.{lacks-head, same_count}

-- ---- lines, each after an LF

pub ends_line : (lines : List (List ℕ)) → EndsLine (after_line_feeds lines)
ends_line [] = tt
ends_line (line ∷ lines) = refl

pub feeds_more : (lines : List (List ℕ)) (last : List ℕ) → after_line_feeds (lines ++ last ∷ []) ≡ after_line_feeds lines ++ 10 ∷ last
feeds_more lines last =
    flat_map-append (λ (line : List ℕ). 10 ∷ line) lines (last ∷ []) ∙ ap (λ rest. after_line_feeds lines ++ rest) (append-nil (10 ∷ last))

pub with_lines : (text : List ℕ) (head : Head) (lines : List (List ℕ)) → IsHead head → text ≡ head_text head ++ after_line_feeds lines → HasHead text head (after_line_feeds lines)
with_lines text head lines is whole = record { is_head = is; whole = whole; ends_line = ends_line lines }

not_nil : (front rest : List ℕ) → [] ≡ front ++ 10 ∷ rest → ⊥
not_nil [] rest is = cc is
not_nil (x ∷ front) rest is = cc is

begins_with_lf : (lines : List (List ℕ)) (rest : List ℕ) → (more : List ℕ) × (after_line_feeds lines ++ 10 ∷ rest ≡ 10 ∷ more)
begins_with_lf [] rest = (rest, refl)
begins_with_lf (line ∷ lines) rest = ((line ++ after_line_feeds lines) ++ 10 ∷ rest, refl)

-- the first line and what comes after it
first_cut : (one other : List ℕ) (lines others : List (List ℕ)) (a b : List ℕ) → Lacks 10 one → Lacks 10 other
    → (one ++ after_line_feeds lines) ++ 10 ∷ a ≡ (other ++ after_line_feeds others) ++ 10 ∷ b
    → (one ≡ other) × (after_line_feeds lines ++ 10 ∷ a ≡ after_line_feeds others ++ 10 ∷ b)
first_cut one other lines others a b lacks lacks' same =
    let here = begins_with_lf lines a in
    let there = begins_with_lf others b in
    let cut = one_cut 10 one other here.0 there.0 lacks lacks'
    (ap (λ t. one ++ t) (sym here.1) ∙ (sym (append_assoc one (after_line_feeds lines) (10 ∷ a)) ∙ (same ∙ (append_assoc other (after_line_feeds others) (10 ∷ b) ∙ ap (λ t. other ++ t) there.1)))) in
    (cut.0, here.1 ∙ (ap (λ t. 10 ∷ t) cut.1 ∙ sym there.1))

next_cut : (one other : List ℕ) (lines others : List (List ℕ)) (a b : List ℕ) → All (Lacks 10) (one ∷ lines) → All (Lacks 10) (other ∷ others)
    → after_line_feeds (one ∷ lines) ++ 10 ∷ a ≡ after_line_feeds (other ∷ others) ++ 10 ∷ b
    → (one ≡ other) × (after_line_feeds lines ++ 10 ∷ a ≡ after_line_feeds others ++ 10 ∷ b)
next_cut one other lines others a b each each' same =
    let rest : (one ++ after_line_feeds lines) ++ 10 ∷ a ≡ (other ++ after_line_feeds others) ++ 10 ∷ b = cc same in
    first_cut one other lines others a b (All-head (Lacks 10) one lines each) (All-head (Lacks 10) other others each') rest

with_first : (one other : List ℕ) (lines others : List (List ℕ)) → one ≡ other → lines ≡ others → one ∷ lines ≡ other ∷ others
with_first one other lines others same also = ap (λ l. l ∷ lines) same ∙ ap (λ ls. other ∷ ls) also

-- as many lines are the same
same_lines : (lines others : List (List ℕ)) (a b : List ℕ) → All (Lacks 10) lines → All (Lacks 10) others → length lines ≡ length others
    → after_line_feeds lines ++ 10 ∷ a ≡ after_line_feeds others ++ 10 ∷ b → (lines ≡ others) × (a ≡ b)
same_lines [] [] a b each each' len same = (refl, cc same)
same_lines [] (other ∷ others) a b each each' len same = absurd (omega (arith, len))
same_lines (one ∷ lines) [] a b each each' len same = absurd (omega (arith, len))
same_lines (one ∷ lines) (other ∷ others) a b each each' len same =
    let cut = next_cut one other lines others a b each each' same in
    let rest = same_lines lines others a b (All-tail (Lacks 10) one lines each) (All-tail (Lacks 10) other others each') (omega (arith, len)) cut.1 in
    (with_first one other lines others cut.0 rest.0, rest.1)

-- and so are the last lines, if there are no more of them
last_lines : (lines others : List (List ℕ)) (b : List ℕ) → All (Lacks 10) lines → All (Lacks 10) others → length lines ≤ length others
    → after_line_feeds lines ++ 10 ∷ [] ≡ after_line_feeds others ++ 10 ∷ b → (lines ≡ others) × (b ≡ [])
last_lines [] [] b each each' few same = (refl, let rest : [] ≡ b = cc same in sym rest)
last_lines [] (other ∷ others) b each each' few same =
    let rest : [] ≡ (other ++ after_line_feeds others) ++ 10 ∷ b = cc same in absurd (not_nil (other ++ after_line_feeds others) b rest)
last_lines (one ∷ lines) [] b each each' few same = absurd (omega (arith, few))
last_lines (one ∷ lines) (other ∷ others) b each each' few same =
    let cut = next_cut one other lines others [] b each each' same in
    let rest = last_lines lines others b (All-tail (Lacks 10) one lines each) (All-tail (Lacks 10) other others each') (omega (arith, few)) cut.1 in
    (with_first one other lines others cut.0 rest.0, rest.1)

-- ---- the first request of a text

-- a line that has no head is not the first line of a block
line_and_block : (line : List ℕ) (head : Head) (lines : List (List ℕ)) (a b : List ℕ) → Lacks 10 line → ((other : Head) (rest : List ℕ) → HasHead line other rest → ⊥) → IsHead head
    → line ++ 10 ∷ a ≡ (head_text head ++ after_line_feeds lines) ++ 10 ∷ b → ⊥
line_and_block line head lines a b lacks none is same =
    let cut = first_cut line (head_text head) [] lines a b lacks (lacks-head head) (ap (λ t. t ++ 10 ∷ a) (append-nil line) ∙ same) in
    none head [] (with_lines line head [] is (cut.0 ∙ sym (append-nil (head_text head))))

pub same_request : (one other a b : List ℕ) → IsRequest one → IsRequest other → one ++ 10 ∷ a ≡ other ++ 10 ∷ b → (one ≡ other) × (a ≡ b)
same_request one other a b (is_line lacks none) (is_line lacks' none') same = one_cut 10 one other a b lacks lacks' same
same_request one other a b (is_line lacks none) (is_block head lines block) same =
    absurd (line_and_block one head lines a b lacks none block.has_head.is_head (same ∙ ap (λ t. t ++ 10 ∷ b) block.has_head.whole))
same_request one other a b (is_block head lines block) (is_line lacks none) same =
    absurd (line_and_block other head lines b a lacks none block.has_head.is_head (sym same ∙ ap (λ t. t ++ 10 ∷ a) block.has_head.whole))
same_request one other a b (is_block head lines block) (is_block head' lines' block') same =
    let whole = block.has_head.whole in
    let whole' = block'.has_head.whole in
    let cut = first_cut (head_text head) (head_text head') lines lines' a b (lacks-head head) (lacks-head head') (ap (λ t. t ++ 10 ∷ a) (sym whole) ∙ (same ∙ ap (λ t. t ++ 10 ∷ b) whole')) in
    let count = same_count head head' block.has_head.is_head block'.has_head.is_head cut.0 in
    let rest = same_lines lines lines' a b block.are_lines block'.are_lines (block.count ∙ (count ∙ sym block'.count)) cut.1 in
    (whole ∙ (ap (λ t. t ++ after_line_feeds lines) cut.0 ∙ (ap (λ ls. head_text head' ++ after_line_feeds ls) rest.0 ∙ sym whole')), rest.1)

-- a request that the text may end in is the whole text
pub same_last : (one last a : List ℕ) → IsRequest one → BeginsRequest last → one ++ 10 ∷ a ≡ last ++ 10 ∷ [] → (one ≡ last) × (a ≡ [])
same_last one last a (is_line lacks none) (in_line lacks') same = one_cut 10 one last a [] lacks lacks' same
same_last one last a (is_line lacks none) (in_block head lines has each few) same =
    absurd (line_and_block one head lines a [] lacks none has.is_head (same ∙ ap (λ t. t ++ 10 ∷ []) has.whole))
same_last one last a (is_block head lines block) (in_line lacks) same =
    let whole = block.has_head.whole in
    let cut = first_cut last (head_text head) [] lines [] a lacks (lacks-head head) (ap (λ t. t ++ 10 ∷ []) (append-nil last) ∙ (sym same ∙ ap (λ t. t ++ 10 ∷ a) whole)) in
    let rest = last_lines [] lines a (All-nil (Lacks 10)) block.are_lines (omega arith) cut.1 in
    (whole ∙ (ap (λ ls. head_text head ++ after_line_feeds ls) (sym rest.0) ∙ (append-nil (head_text head) ∙ sym cut.0)), rest.1)
same_last one last a (is_block head lines block) (in_block head' lines' has each few) same =
    let whole = block.has_head.whole in
    let cut = first_cut (head_text head') (head_text head) lines' lines [] a (lacks-head head') (lacks-head head) (ap (λ t. t ++ 10 ∷ []) (sym has.whole) ∙ (sym same ∙ ap (λ t. t ++ 10 ∷ a) whole)) in
    let count = same_count head' head has.is_head block.has_head.is_head cut.0 in
    let len = block.count in
    let rest = last_lines lines' lines a each block.are_lines (omega (arith, few, count, len)) cut.1 in
    (whole ∙ (ap (λ t. t ++ after_line_feeds lines) (sym cut.0) ∙ (ap (λ ls. head_text head' ++ after_line_feeds ls) (sym rest.0) ∙ sym has.whole)), rest.1)

pub begins : (request : List ℕ) → IsRequest request → BeginsRequest request
begins request (is_line lacks none) = in_line lacks
begins request (is_block head lines block) = let len = block.count in in_block head lines block.has_head block.are_lines (omega (arith, len))
