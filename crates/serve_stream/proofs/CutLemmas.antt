-- Bytes are cut into requests in one way.
use Rattle.std.proofs.Common.{◌≡◌, ◌∙◌, ◌<◌, ◌≤◌, ◌++◌, ◌∷◌, ◌⊎◌, List, [], ap, append_assoc, append-nil, arith, inl, inr, length, refl, subst, sym, ℕ}
use Rattle.std.specs.List.{All}
use Rattle.std.proofs.lemmas.List.Elements.{All-head, All-tail}
use Rattle.ipv4_fields.specs.Cut.{Lacks}
use Rattle.ipv4_fields.proofs.TextLemmas.{has_separator, one_cut}
use Rattle.control_line.specs.declared.head.Head.{Head}
use Rattle.control_line.specs.Block.{HasHead, IsHead, after_line_feeds, head_text}
use Rattle.serve_stream.specs.Request.{BeginsOverlong, IsCut, IsOverlong, IsPart, IsRequest, ended_by_lf, is_block, is_line, long_block, long_line, part_of_block, part_of_line}
use Rattle.serve_stream.proofs.CountLemmas.{lacks-head, same_count, short_head}
use Rattle.serve_stream.proofs.HeadLemmas.{with_lines}

-- ---- lines, each after an LF, and then an LF

begins_with_lf : (lines : List (List ℕ)) (rest : List ℕ) → (more : List ℕ) × (after_line_feeds lines ++ 10 ∷ rest ≡ 10 ∷ more)
begins_with_lf [] rest = (rest, refl)
begins_with_lf (line ∷ lines) rest = ((line ++ after_line_feeds lines) ++ 10 ∷ rest, refl)

-- the first line and what comes after it
first_cut : (one other : List ℕ) (lines others : List (List ℕ)) (a b : List ℕ) → Lacks 10 one → Lacks 10 other
    → (one ++ after_line_feeds lines) ++ 10 ∷ a ≡ (other ++ after_line_feeds others) ++ 10 ∷ b
    → (one ≡ other) × (after_line_feeds lines ++ 10 ∷ a ≡ after_line_feeds others ++ 10 ∷ b)
first_cut one other lines others a b lacks lacks' same =
    let here = begins_with_lf lines a in
    let there = begins_with_lf others b in
    let cut = one_cut 10 one other here.0 there.0 lacks lacks'
    (ap (λ t. one ++ t) (sym here.1) ∙ (sym (append_assoc one (after_line_feeds lines) (10 ∷ a)) ∙ (same ∙ (append_assoc other (after_line_feeds others) (10 ∷ b) ∙ ap (λ t. other ++ t) there.1)))) in
    (cut.0, here.1 ∙ (ap (λ t. 10 ∷ t) cut.1 ∙ sym there.1))

next_cut : (one other : List ℕ) (lines others : List (List ℕ)) (a b : List ℕ) → All (Lacks 10) (one ∷ lines) → All (Lacks 10) (other ∷ others)
    → after_line_feeds (one ∷ lines) ++ 10 ∷ a ≡ after_line_feeds (other ∷ others) ++ 10 ∷ b
    → (one ≡ other) × (after_line_feeds lines ++ 10 ∷ a ≡ after_line_feeds others ++ 10 ∷ b)
next_cut one other lines others a b each each' same =
    let rest : (one ++ after_line_feeds lines) ++ 10 ∷ a ≡ (other ++ after_line_feeds others) ++ 10 ∷ b = cc same in
    first_cut one other lines others a b (All-head (Lacks 10) one lines each) (All-head (Lacks 10) other others each') rest

with_first : (one other : List ℕ) (lines others : List (List ℕ)) → one ≡ other → lines ≡ others → one ∷ lines ≡ other ∷ others
with_first one other lines others same also = ap (λ l. l ∷ lines) same ∙ ap (λ ls. other ∷ ls) also

-- as many lines are the same
same_lines : (lines others : List (List ℕ)) (a b : List ℕ) → All (Lacks 10) lines → All (Lacks 10) others → length lines ≡ length others
    → after_line_feeds lines ++ 10 ∷ a ≡ after_line_feeds others ++ 10 ∷ b → (lines ≡ others) × (a ≡ b)
same_lines [] [] a b each each' len same = (refl, cc same)
same_lines [] (other ∷ others) a b each each' len same = absurd (omega (arith, len))
same_lines (one ∷ lines) [] a b each each' len same = absurd (omega (arith, len))
same_lines (one ∷ lines) (other ∷ others) a b each each' len same =
    let cut = next_cut one other lines others a b each each' same in
    let rest = same_lines lines others a b (All-tail (Lacks 10) one lines each) (All-tail (Lacks 10) other others each') (omega (arith, len)) cut.1 in
    (with_first one other lines others cut.0 rest.0, rest.1)

-- fewer lines have fewer LFs
too_few : (lines others : List (List ℕ)) (a : List ℕ) → All (Lacks 10) lines → All (Lacks 10) others → length others ≤ length lines
    → after_line_feeds lines ++ 10 ∷ a ≡ after_line_feeds others → ⊥
too_few [] [] a each each' few same = absurd cc
too_few [] (other ∷ others) a each each' few same = omega (arith, few)
too_few (one ∷ lines) [] a each each' few same = absurd cc
too_few (one ∷ lines) (other ∷ []) a each each' few same =
    let rest : (one ++ after_line_feeds lines) ++ 10 ∷ a ≡ other ++ [] = cc same in
    has_separator 10 (one ++ after_line_feeds lines) a (subst (Lacks 10) (sym (append-nil other) ∙ sym rest) (All-head (Lacks 10) other [] each'))
too_few (one ∷ lines) (other ∷ next ∷ others) a each each' few same =
    let here = begins_with_lf lines a in
    let rest : (one ++ after_line_feeds lines) ++ 10 ∷ a ≡ other ++ (10 ∷ (next ++ after_line_feeds others)) = cc same in
    let cut = one_cut 10 one other here.0 (next ++ after_line_feeds others) (All-head (Lacks 10) one lines each) (All-head (Lacks 10) other (next ∷ others) each')
    (ap (λ t. one ++ t) (sym here.1) ∙ (sym (append_assoc one (after_line_feeds lines) (10 ∷ a)) ∙ rest)) in
    too_few lines (next ∷ others) a (All-tail (Lacks 10) one lines each) (All-tail (Lacks 10) other (next ∷ others) each') (omega (arith, few)) (here.1 ∙ ap (λ t. 10 ∷ t) cut.1)

-- ---- the first request of a text

-- a line that has no head is not the first line of a block
line_and_block : (line : List ℕ) (head : Head) (lines : List (List ℕ)) (a b : List ℕ) → Lacks 10 line → ((other : Head) (rest : List ℕ) → HasHead line other rest → ⊥) → IsHead head
    → line ++ 10 ∷ a ≡ (head_text head ++ after_line_feeds lines) ++ 10 ∷ b → ⊥
line_and_block line head lines a b lacks none is same =
    let cut = first_cut line (head_text head) [] lines a b lacks (lacks-head head) (ap (λ t. t ++ 10 ∷ a) (append-nil line) ∙ same) in
    none head [] (with_lines line head [] is (cut.0 ∙ sym (append-nil (head_text head))))

same_request : (one other a b : List ℕ) → IsRequest one → IsRequest other → one ++ 10 ∷ a ≡ other ++ 10 ∷ b → (one ≡ other) × (a ≡ b)
same_request one other a b (is_line lacks short none) (is_line lacks' short' none') same = one_cut 10 one other a b lacks lacks' same
same_request one other a b (is_line lacks short none) (is_block head lines block short') same =
    absurd (line_and_block one head lines a b lacks none block.has_head.is_head (same ∙ ap (λ t. t ++ 10 ∷ b) block.has_head.whole))
same_request one other a b (is_block head lines block short) (is_line lacks short' none) same =
    absurd (line_and_block other head lines b a lacks none block.has_head.is_head (sym same ∙ ap (λ t. t ++ 10 ∷ a) block.has_head.whole))
same_request one other a b (is_block head lines block short) (is_block head' lines' block' short') same =
    let whole = block.has_head.whole in
    let whole' = block'.has_head.whole in
    let cut = first_cut (head_text head) (head_text head') lines lines' a b (lacks-head head) (lacks-head head') (ap (λ t. t ++ 10 ∷ a) (sym whole) ∙ (same ∙ ap (λ t. t ++ 10 ∷ b) whole')) in
    let count = same_count head head' block.has_head.is_head block'.has_head.is_head cut.0 in
    let rest = same_lines lines lines' a b block.are_lines block'.are_lines (block.count ∙ (count ∙ sym block'.count)) cut.1 in
    (whole ∙ (ap (λ t. t ++ after_line_feeds lines) cut.0 ∙ (ap (λ ls. head_text head' ++ after_line_feeds ls) rest.0 ∙ sym whole')), rest.1)

-- ---- all requests

first_of_all : (first : List ℕ) (rest : List (List ℕ)) (left : List ℕ) → ended_by_lf (first ∷ rest) ++ left ≡ first ++ 10 ∷ (ended_by_lf rest ++ left)
first_of_all first rest left =
    append_assoc (first ++ 10 ∷ []) (ended_by_lf rest) left ∙ append_assoc first (10 ∷ []) (ended_by_lf rest ++ left)

pub one_cutting : (bytes : List ℕ) (some all : List (List ℕ)) (left left' : List ℕ) → IsCut bytes some left → IsCut bytes all left' →
    length some ≤ length all → (more : List (List ℕ)) × (all ≡ some ++ more) × (left ≡ ended_by_lf more ++ left')
one_cutting bytes [] all left left' one other few = (all, refl, sym one.whole ∙ other.whole)
one_cutting bytes (first ∷ some) [] left left' one other few = absurd (omega (arith, few))
one_cutting bytes (first ∷ some) (first' ∷ all) left left' one other few =
    let cut = same_request first first' (ended_by_lf some ++ left) (ended_by_lf all ++ left') (All-head IsRequest first some one.each) (All-head IsRequest first' all other.each)
    (sym (first_of_all first some left) ∙ (sym one.whole ∙ (other.whole ∙ first_of_all first' all left'))) in
    let rest = one_cutting (ended_by_lf some ++ left) some all left left' (record { each = All-tail IsRequest first some one.each; whole = refl })
    (record { each = All-tail IsRequest first' all other.each; whole = cut.1 }) (omega (arith, few)) in
    (rest.0, with_first first' first all (some ++ rest.0) (sym cut.0) rest.1, rest.2)

-- ---- bytes without a whole request

-- a block's first line, as a line
first_line : (text : List ℕ) (head : Head) (line : List ℕ) (lines : List (List ℕ)) → HasHead text head (after_line_feeds (line ∷ lines)) → text ≡ head_text head ++ 10 ∷ (line ++ after_line_feeds lines)
first_line text head line lines has = has.whole

part_and_request : (part request more : List ℕ) → IsPart part → IsRequest request → part ≡ request ++ 10 ∷ more → ⊥
part_and_request part request more (part_of_line lacks short) is same = has_separator 10 request more (subst (Lacks 10) same lacks)
part_and_request part request more (part_of_block head [] has each some few short) is same = omega (arith, some)
part_and_request part request more (part_of_block head (line ∷ lines) has each some few short) (is_line lacks short' none) same =
    let cut = one_cut 10 request (head_text head) more (line ++ after_line_feeds lines) lacks (lacks-head head) (sym same ∙ has.whole) in
    none head [] (with_lines request head [] has.is_head (cut.0 ∙ sym (append-nil (head_text head))))
part_and_request part request more (part_of_block head (line ∷ lines) has each some few short) (is_block head' lines' block short') same =
    let whole = block.has_head.whole in
    let here = begins_with_lf lines' more in
    let cut = one_cut 10 (head_text head') (head_text head) here.0 (line ++ after_line_feeds lines) (lacks-head head') (lacks-head head)
    (ap (λ t. head_text head' ++ t) (sym here.1) ∙ (sym (append_assoc (head_text head') (after_line_feeds lines') (10 ∷ more)) ∙ (ap (λ t. t ++ 10 ∷ more) (sym whole) ∙ (sym same ∙ has.whole)))) in
    let count = same_count head' head block.has_head.is_head has.is_head cut.0 in
    let len = block.count in
    too_few lines' (line ∷ lines) more block.are_lines each (omega (arith, few, count, len)) (here.1 ∙ ap (λ t. 10 ∷ t) cut.1)

-- a text that is longer than another before an LF has this LF
longer_front : (front text rest more : List ℕ) → front ++ rest ≡ text ++ 10 ∷ more → length text < length front → (left : List ℕ) × (front ≡ text ++ 10 ∷ left)
longer_front [] text rest more same long = absurd (omega (arith, long))
longer_front (x ∷ front) [] rest more same long = let first : x ≡ 10 = cc same in (front, ap (λ b. b ∷ front) first)
longer_front (x ∷ front) (t ∷ text) rest more same long =
    let first : x ≡ t = cc same in
    let tails : front ++ rest ≡ text ++ 10 ∷ more = cc same in
    let left = longer_front front text rest more tails (omega (arith, long)) in
    (left.0, ap (λ b. b ∷ front) first ∙ ap (λ l. t ∷ l) left.1)

overlong_and_request : (front rest request more : List ℕ) → IsOverlong front → IsRequest request → front ++ rest ≡ request ++ 10 ∷ more → ⊥
overlong_and_request front rest request more (long_line lacks long) (is_line lacks' short none) same =
    let left = longer_front front request rest more same (omega (arith, long, short)) in
    has_separator 10 request left.0 (subst (Lacks 10) left.1 lacks)
overlong_and_request front rest request more (long_line lacks long) (is_block head lines block short) same =
    let here = begins_with_lf lines more in
    let few = short_head head block.has_head.is_head in
    let left = longer_front front (head_text head) rest here.0
    (same ∙ (ap (λ t. t ++ 10 ∷ more) block.has_head.whole ∙ (append_assoc (head_text head) (after_line_feeds lines) (10 ∷ more) ∙ ap (λ t. head_text head ++ t) here.1)))
    (omega (arith, long, few)) in
    has_separator 10 (head_text head) left.0 (subst (Lacks 10) left.1 lacks)
overlong_and_request front rest request more (long_block head [] has each few long) is same = omega (arith, long)
overlong_and_request front rest request more (long_block head (line ∷ lines) has each few long) (is_line lacks short none) same =
    let cut = one_cut 10 request (head_text head) more ((line ++ after_line_feeds lines) ++ rest) lacks (lacks-head head)
    (sym same ∙ (ap (λ t. t ++ rest) has.whole ∙ append_assoc (head_text head) (after_line_feeds (line ∷ lines)) rest)) in
    none head [] (with_lines request head [] has.is_head (cut.0 ∙ sym (append-nil (head_text head))))
overlong_and_request front rest request more (long_block head (line ∷ lines) has each few long) (is_block head' lines' block short) same =
    let here = begins_with_lf lines' more in
    let cut = one_cut 10 (head_text head') (head_text head) here.0 ((line ++ after_line_feeds lines) ++ rest) (lacks-head head') (lacks-head head)
    (ap (λ t. head_text head' ++ t) (sym here.1) ∙ (sym (append_assoc (head_text head') (after_line_feeds lines') (10 ∷ more)) ∙ (ap (λ t. t ++ 10 ∷ more) (sym block.has_head.whole)
    ∙ (sym same ∙ (ap (λ t. t ++ rest) has.whole ∙ append_assoc (head_text head) (after_line_feeds (line ∷ lines)) rest))))) in
    let count = same_count head' head block.has_head.is_head has.is_head cut.0 in
    let len = block.count in
    let left = longer_front (after_line_feeds (line ∷ lines)) (after_line_feeds lines') rest more (ap (λ t. 10 ∷ t) (sym cut.1) ∙ sym here.1) (omega (arith, long, short)) in
    too_few lines' (line ∷ lines) left.0 block.are_lines each (omega (arith, few, count, len)) (sym left.1)

pub no_request : (bytes : List ℕ) → IsPart bytes ⊎ BeginsOverlong bytes → (requests : List (List ℕ)) (left : List ℕ) → IsCut bytes requests left → requests ≡ []
no_request bytes is [] left cut = refl
no_request bytes (inl part) (first ∷ rest) left cut =
    absurd (part_and_request bytes first (ended_by_lf rest ++ left) part (All-head IsRequest first rest cut.each) (cut.whole ∙ first_of_all first rest left))
no_request bytes (inr (front, more, is, long)) (first ∷ rest) left cut =
    absurd (overlong_and_request front more first (ended_by_lf rest ++ left) long (All-head IsRequest first rest cut.each) (sym is ∙ (cut.whole ∙ first_of_all first rest left)))
