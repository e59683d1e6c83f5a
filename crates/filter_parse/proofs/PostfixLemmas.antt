-- The parts of a tree tell that tree and its depth.
use Rattle.std.proofs.Common.{◌≡◌, ◌+◌, ◌≤◌, ◌∙◌, ◌∷◌, ◌++◌, List, [], ap, arith, length, max, min, refl, reverse, ℕ}
use Rattle.std.proofs.lemmas.List.{reverse-append}
use Rattle.filter_tree.specs.Measure.{depth_of, depth_of_arith}
use Rattle.filter_tree.specs.Tree.{ArithTree, Tree, accessor, conjunction, disjunction, negation, number, operation, packet_length, primitive, relation}
use Rattle.filter_parse.specs.declared.item.Item.{Item}
use Rattle.filter_parse.specs.declared.item.Item.TheVariants.{Access, Conjoin, Disjoin, Length, Negate, Number, Operate, Primitive, Relate}
use Rattle.filter_parse.proofs.Gathered.{with_arith, with_tree}
use Rattle.filter_parse.specs.body.Postfix.{arith_parts, deepened, deeper, depths_of, first_depth, other_depths, over_two, tree_parts}

reverse-push : (items : List Item) (item : Item) → reverse (items ++ item ∷ []) ≡ item ∷ reverse items
reverse-push items item = reverse-append items (item ∷ [])

-- the parts from the last on are those behind one another, backwards
pub reverse-arith : (a : ArithTree) (items : List Item) → reverse (with_arith a items) ≡ arith_parts a (reverse items)
reverse-arith (number n) items = reverse-push items (Number n)
reverse-arith packet_length items = reverse-push items Length
reverse-arith (accessor p index size) items = reverse-push (with_arith index items) (Access p size) ∙ ap (λ ps. Access p size ∷ ps) (reverse-arith index items)
reverse-arith (operation a o b) items =
    reverse-push (with_arith b (with_arith a items)) (Operate o)
    ∙ ap (λ ps. Operate o ∷ ps) (reverse-arith b (with_arith a items) ∙ ap (arith_parts b) (reverse-arith a items))

pub reverse-tree : (e : Tree) (items : List Item) → reverse (with_tree e items) ≡ tree_parts e (reverse items)
reverse-tree (primitive p) items = reverse-push items (Primitive p)
reverse-tree (relation a r b) items =
    reverse-push (with_arith b (with_arith a items)) (Relate r)
    ∙ ap (λ ps. Relate r ∷ ps) (reverse-arith b (with_arith a items) ∙ ap (arith_parts b) (reverse-arith a items))
reverse-tree (negation e) items = reverse-push (with_tree e items) Negate ∙ ap (λ ps. Negate ∷ ps) (reverse-tree e items)
reverse-tree (conjunction a b) items =
    reverse-push (with_tree b (with_tree a items)) Conjoin
    ∙ ap (λ ps. Conjoin ∷ ps) (reverse-tree b (with_tree a items) ∙ ap (tree_parts b) (reverse-tree a items))
reverse-tree (disjunction a b) items =
    reverse-push (with_tree b (with_tree a items)) Disjoin
    ∙ ap (λ ps. Disjoin ∷ ps) (reverse-tree b (with_tree a items) ∙ ap (tree_parts b) (reverse-tree a items))

-- two trees with the same parts are one
pub same-arith : (a b : ArithTree) (below other : List Item) → arith_parts a below ≡ arith_parts b other → (a ≡ b) × (below ≡ other)
same-arith (number n) (number m) below other h = (cc, cc)
same-arith packet_length packet_length below other h = (refl, cc)
same-arith (accessor p index size) (accessor q place bytes) below other h =
    let t : arith_parts index below ≡ arith_parts place other = cc in let e = same-arith index place below other t in (let f = e.0 in cc, e.1)
same-arith (operation a o b) (operation c u d) below other h =
    let t : arith_parts b (arith_parts a below) ≡ arith_parts d (arith_parts c other) = cc in
    let e = same-arith b d (arith_parts a below) (arith_parts c other) t in
    let f = same-arith a c below other e.1 in (let g = e.0 in let k = f.0 in cc, f.1)
same-arith _ _ below other h = absurd cc

pub same-tree : (one two : Tree) (below other : List Item) → tree_parts one below ≡ tree_parts two other → (one ≡ two) × (below ≡ other)
same-tree (primitive p) (primitive q) below other h = (cc, cc)
same-tree (relation a r b) (relation c s d) below other h =
    let t : arith_parts b (arith_parts a below) ≡ arith_parts d (arith_parts c other) = cc in
    let e = same-arith b d (arith_parts a below) (arith_parts c other) t in
    let f = same-arith a c below other e.1 in (let g = e.0 in let k = f.0 in cc, f.1)
same-tree (negation a) (negation b) below other h =
    let t : tree_parts a below ≡ tree_parts b other = cc in let e = same-tree a b below other t in (let f = e.0 in cc, e.1)
same-tree (conjunction a b) (conjunction c d) below other h =
    let t : tree_parts b (tree_parts a below) ≡ tree_parts d (tree_parts c other) = cc in
    let e = same-tree b d (tree_parts a below) (tree_parts c other) t in
    let f = same-tree a c below other e.1 in (let g = e.0 in let k = f.0 in cc, f.1)
same-tree (disjunction a b) (disjunction c d) below other h =
    let t : tree_parts b (tree_parts a below) ≡ tree_parts d (tree_parts c other) = cc in
    let e = same-tree b d (tree_parts a below) (tree_parts c other) t in
    let f = same-tree a c below other e.1 in (let g = e.0 in let k = f.0 in cc, f.1)
same-tree _ _ below other h = absurd cc

depths-push : (items : List Item) (item : Item) (depths : List ℕ) → depths_of (items ++ item ∷ []) depths ≡ deepened item (depths_of items depths)
depths-push [] item depths = refl
depths-push (first ∷ items) item depths = depths-push items item (deepened first depths)

over-two : (a b : ℕ) (depths : List ℕ) → over_two (min b 65 ∷ min a 65 ∷ depths) ≡ min (1 + max a b) 65 ∷ depths
over-two a b depths = ap (λ d. d ∷ depths) (omega arith)

over-one : (a : ℕ) (depths : List ℕ) → deeper (min a 65) ∷ depths ≡ min (1 + a) 65 ∷ depths
over-one a depths = ap (λ d. d ∷ depths) (omega arith)

pub depths-arith : (a : ArithTree) (items : List Item) (depths : List ℕ) →
    depths_of (with_arith a items) depths ≡ min (depth_of_arith a) 65 ∷ depths_of items depths
depths-arith (number n) items depths = depths-push items (Number n) depths
depths-arith packet_length items depths = depths-push items Length depths
depths-arith (accessor p index size) items depths =
    depths-push (with_arith index items) (Access p size) depths ∙ ap (deepened (Access p size)) (depths-arith index items depths)
    ∙ over-one (depth_of_arith index) (depths_of items depths)
depths-arith (operation a o b) items depths =
    depths-push (with_arith b (with_arith a items)) (Operate o) depths
    ∙ ap (deepened (Operate o)) (depths-arith b (with_arith a items) depths ∙ ap (λ d. min (depth_of_arith b) 65 ∷ d) (depths-arith a items depths))
    ∙ over-two (depth_of_arith a) (depth_of_arith b) (depths_of items depths)

pub depths-tree : (e : Tree) (items : List Item) (depths : List ℕ) → depths_of (with_tree e items) depths ≡ min (depth_of e) 65 ∷ depths_of items depths
depths-tree (primitive p) items depths = depths-push items (Primitive p) depths
depths-tree (relation a r b) items depths =
    depths-push (with_arith b (with_arith a items)) (Relate r) depths
    ∙ ap (deepened (Relate r)) (depths-arith b (with_arith a items) depths ∙ ap (λ d. min (depth_of_arith b) 65 ∷ d) (depths-arith a items depths))
    ∙ over-two (depth_of_arith a) (depth_of_arith b) (depths_of items depths)
depths-tree (negation e) items depths =
    depths-push (with_tree e items) Negate depths ∙ ap (deepened Negate) (depths-tree e items depths) ∙ over-one (depth_of e) (depths_of items depths)
depths-tree (conjunction a b) items depths =
    depths-push (with_tree b (with_tree a items)) Conjoin depths
    ∙ ap (deepened Conjoin) (depths-tree b (with_tree a items) depths ∙ ap (λ d. min (depth_of b) 65 ∷ d) (depths-tree a items depths))
    ∙ over-two (depth_of a) (depth_of b) (depths_of items depths)
depths-tree (disjunction a b) items depths =
    depths-push (with_tree b (with_tree a items)) Disjoin depths
    ∙ ap (deepened Disjoin) (depths-tree b (with_tree a items) depths ∙ ap (λ d. min (depth_of b) 65 ∷ d) (depths-tree a items depths))
    ∙ over-two (depth_of a) (depth_of b) (depths_of items depths)

-- the greatest depth
abbrev deepest : List ℕ → ℕ
deepest [] = 0
deepest (depth ∷ depths) = max depth (deepest depths)

first-deepest : (depths : List ℕ) → first_depth depths ≤ deepest depths
first-deepest [] = omega arith
first-deepest (depth ∷ depths) = omega arith

others-deepest : (depths : List ℕ) → deepest (other_depths depths) ≤ deepest depths
others-deepest [] = omega arith
others-deepest (depth ∷ depths) = omega arith

over-one-deepest : (depths : List ℕ) → deepest (deeper (first_depth depths) ∷ other_depths depths) ≤ deepest depths + 1
over-one-deepest depths = let f = first-deepest depths in let o = others-deepest depths in omega arith

over-two-deepest : (depths : List ℕ) → deepest (over_two depths) ≤ deepest depths + 1
over-two-deepest depths =
    let f = first-deepest depths in let o = others-deepest depths in
    let g = first-deepest (other_depths depths) in let p = others-deepest (other_depths depths) in omega arith

one-deeper : (item : Item) (depths : List ℕ) → deepest (deepened item depths) ≤ deepest depths + 1
one-deeper (Number n) depths = omega arith
one-deeper Length depths = omega arith
one-deeper (Primitive p) depths = omega arith
one-deeper (Access p size) depths = over-one-deepest depths
one-deeper Negate depths = over-one-deepest depths
one-deeper (Operate o) depths = over-two-deepest depths
one-deeper (Relate r) depths = over-two-deepest depths
one-deeper Conjoin depths = over-two-deepest depths
one-deeper Disjoin depths = over-two-deepest depths

deepest-parts : (items : List Item) (depths : List ℕ) → deepest (depths_of items depths) ≤ deepest depths + length items
deepest-parts [] depths = omega arith
deepest-parts (item ∷ items) depths = let one = one-deeper item depths in let more = deepest-parts items (deepened item depths) in omega arith

-- a tree has no more levels than parts
pub few-levels : (items : List Item) → first_depth (depths_of items []) ≤ length items
few-levels items = let f = first-deepest (depths_of items []) in let d = deepest-parts items [] in omega arith
