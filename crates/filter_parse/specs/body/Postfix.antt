-- Trees and their depths out of parts in postfix order.
use Rattle.std.specs.Prelude.{◌≡◌, ◌+◌, ◌∷◌, List, [], max, min, ℕ}
use Rattle.filter_tree.specs.Tree.{ArithTree, Tree, accessor, conjunction, disjunction, negation, number, operation, packet_length, primitive, relation}
use Rattle.filter_parse.specs.declared.item.Item.{Item}
use Rattle.filter_parse.specs.declared.item.Item.TheVariants.{Access, Conjoin, Disjoin, Length, Negate, Number, Operate, Primitive, Relate}

-- a tree's parts from the last on, above others
abbrev pub arith_parts : ArithTree → List Item → List Item
arith_parts (number n) below = Number n ∷ below
arith_parts packet_length below = Length ∷ below
arith_parts (accessor protocol index size) below = Access protocol size ∷ arith_parts index below
arith_parts (operation left operator right) below = Operate operator ∷ arith_parts right (arith_parts left below)

-- the same of an expression
abbrev pub tree_parts : Tree → List Item → List Item
tree_parts (primitive p) below = Primitive p ∷ below
tree_parts (relation left relator right) below = Relate relator ∷ arith_parts right (arith_parts left below)
tree_parts (negation tree) below = Negate ∷ tree_parts tree below
tree_parts (conjunction left right) below = Conjoin ∷ tree_parts right (tree_parts left below)
tree_parts (disjunction left right) below = Disjoin ∷ tree_parts right (tree_parts left below)

-- the parts of an arithmetic expression are on top
abbrev pub HasArithmetic : List Item → Type 0
HasArithmetic parts = (tree : ArithTree) × (below : List Item) × (parts ≡ arith_parts tree below)

-- the parts of an expression are on top
abbrev pub HasTree : List Item → Type 0
HasTree parts = (tree : Tree) × (below : List Item) × (parts ≡ tree_parts tree below)

-- depths past 64 are all alike
abbrev pub deeper : ℕ → ℕ
deeper depth = min (depth + 1) 65

-- the depth of the last tree
abbrev pub first_depth : List ℕ → ℕ
first_depth [] = 0
first_depth (depth ∷ depths) = depth

-- the depths of the trees before it
abbrev pub other_depths : List ℕ → List ℕ
other_depths [] = []
other_depths (depth ∷ depths) = depths

-- the depth of a tree over the last two
abbrev pub over_two : List ℕ → List ℕ
over_two depths = deeper (max (first_depth (other_depths depths)) (first_depth depths)) ∷ other_depths (other_depths depths)

-- what a part makes of the depths of the trees that wait
abbrev pub deepened : Item → List ℕ → List ℕ
deepened (Number n) depths = 1 ∷ depths
deepened Length depths = 1 ∷ depths
deepened (Primitive p) depths = 1 ∷ depths
deepened (Access protocol size) depths = deeper (first_depth depths) ∷ other_depths depths
deepened Negate depths = deeper (first_depth depths) ∷ other_depths depths
deepened (Operate operator) depths = over_two depths
deepened (Relate relator) depths = over_two depths
deepened Conjoin depths = over_two depths
deepened Disjoin depths = over_two depths

-- what some parts make of the depths, one behind the other
abbrev pub depths_of : List Item → List ℕ → List ℕ
depths_of [] depths = depths
depths_of (item ∷ items) depths = depths_of items (deepened item depths)
