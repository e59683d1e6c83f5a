-- What stands on top of a tree's parts, and what is below it.
use Rattle.std.proofs.Common.{◌≡◌, ◌<◌, ◌∙◌, ◌∷◌, List, Option, Some, ap, arith, length, subst, sym}
use Rattle.filter_tree.specs.declared.arithmetic.Operator.{Operator}
use Rattle.filter_tree.specs.declared.arithmetic.Protocol.{Protocol}
use Rattle.filter_tree.specs.declared.arithmetic.Size.{Size}
use Rattle.filter_tree.specs.declared.expression.Relation.{Relation}
use Rattle.filter_tree.specs.Tree.{ArithTree, Tree, accessor, conjunction, disjunction, negation, number, operation, packet_length, primitive, relation}
use Rattle.filter_parse.specs.declared.item.Item.{Item}
use Rattle.filter_parse.specs.declared.item.Item.TheVariants.{Access, Conjoin, Disjoin, Length, Negate, Number, Operate, Primitive, Relate}
use Rattle.filter_parse.specs.body.Stack.{below_top, top_of}
use Rattle.filter_parse.specs.body.Postfix.{HasArithmetic, HasTree, arith_parts, tree_parts}
use Rattle.filter_parse.proofs.PostfixLemmas.{same-arith, same-tree}

index-at : (tree : ArithTree) (under below : List Item) (p : Protocol) (size : Size) → Access p size ∷ below ≡ arith_parts tree under → HasArithmetic below
index-at (accessor q index bytes) under below p size e = (index, under, ap below_top e)
index-at _ under below p size e = absurd cc

-- the index of an accessor
pub has-index : (s below : List Item) (p : Protocol) (size : Size) → s ≡ Access p size ∷ below → HasArithmetic s → HasArithmetic below
has-index s below p size e h = index-at h.0 h.1 below p size (sym e ∙ h.2)

right-at : (tree : ArithTree) (under below : List Item) (o : Operator) → Operate o ∷ below ≡ arith_parts tree under → HasArithmetic below
right-at (operation a u b) under below o e = (b, arith_parts a under, ap below_top e)
right-at _ under below o e = absurd cc

-- the right side of an operation
pub has-right : (s below : List Item) (o : Operator) → s ≡ Operate o ∷ below → HasArithmetic s → HasArithmetic below
has-right s below o e h = right-at h.0 h.1 below o (sym e ∙ h.2)

left-at : (tree right : ArithTree) (under below rest : List Item) (o : Operator) → Operate o ∷ below ≡ arith_parts tree under → below ≡ arith_parts right rest → HasArithmetic rest
left-at (operation a u b) right under below rest o e h = (a, under, sym (same-arith b right (arith_parts a under) rest (sym (ap below_top e) ∙ h)).1)
left-at _ right under below rest o e h = absurd cc

-- the left side of an operation, once its right side was taken
pub has-left : (right : ArithTree) (s below rest : List Item) (o : Operator) → s ≡ Operate o ∷ below → HasArithmetic s → below ≡ arith_parts right rest → HasArithmetic rest
has-left right s below rest o e h taken = left-at h.0 right h.1 below rest o (sym e ∙ h.2) taken

relation-at : (tree : Tree) (under below : List Item) (r : Relation) → Relate r ∷ below ≡ tree_parts tree under → HasArithmetic below
relation-at (relation a u b) under below r e = (b, arith_parts a under, ap below_top e)
relation-at _ under below r e = absurd cc

-- the right side of a relation
pub has-relation-right : (below : List Item) (r : Relation) → HasTree (Relate r ∷ below) → HasArithmetic below
has-relation-right below r h = relation-at h.0 h.1 below r h.2

relation-left-at : (tree : Tree) (right : ArithTree) (under below rest : List Item) (r : Relation) → Relate r ∷ below ≡ tree_parts tree under → below ≡ arith_parts right rest →
    HasArithmetic rest
relation-left-at (relation a u b) right under below rest r e h = (a, under, sym (same-arith b right (arith_parts a under) rest (sym (ap below_top e) ∙ h)).1)
relation-left-at _ right under below rest r e h = absurd cc

-- the left side of a relation, once its right side was taken
pub has-relation-left : (right : ArithTree) (below rest : List Item) (r : Relation) → HasTree (Relate r ∷ below) → below ≡ arith_parts right rest → HasArithmetic rest
has-relation-left right below rest r h taken = relation-left-at h.0 right h.1 below rest r h.2 taken

negated-at : (tree : Tree) (under below : List Item) → Negate ∷ below ≡ tree_parts tree under → HasTree below
negated-at (negation inner) under below e = (inner, under, ap below_top e)
negated-at _ under below e = absurd cc

-- what `not` stands over
pub has-negated : (s below : List Item) → s ≡ Negate ∷ below → HasTree s → HasTree below
has-negated s below e h = negated-at h.0 h.1 below (sym e ∙ h.2)

conjoined-at : (tree : Tree) (under below : List Item) → Conjoin ∷ below ≡ tree_parts tree under → HasTree below
conjoined-at (conjunction a b) under below e = (b, tree_parts a under, ap below_top e)
conjoined-at _ under below e = absurd cc

-- the right side of `and`
pub has-conjoined : (s below : List Item) → s ≡ Conjoin ∷ below → HasTree s → HasTree below
has-conjoined s below e h = conjoined-at h.0 h.1 below (sym e ∙ h.2)

conjoined-left-at : (tree right : Tree) (under below rest : List Item) → Conjoin ∷ below ≡ tree_parts tree under → below ≡ tree_parts right rest → HasTree rest
conjoined-left-at (conjunction a b) right under below rest e h = (a, under, sym (same-tree b right (tree_parts a under) rest (sym (ap below_top e) ∙ h)).1)
conjoined-left-at _ right under below rest e h = absurd cc

-- the left side of `and`, once its right side was taken
pub has-conjoined-left : (right : Tree) (s below rest : List Item) → s ≡ Conjoin ∷ below → HasTree s → below ≡ tree_parts right rest → HasTree rest
has-conjoined-left right s below rest e h taken = conjoined-left-at h.0 right h.1 below rest (sym e ∙ h.2) taken

disjoined-at : (tree : Tree) (under below : List Item) → Disjoin ∷ below ≡ tree_parts tree under → HasTree below
disjoined-at (disjunction a b) under below e = (b, tree_parts a under, ap below_top e)
disjoined-at _ under below e = absurd cc

-- the right side of `or`
pub has-disjoined : (s below : List Item) → s ≡ Disjoin ∷ below → HasTree s → HasTree below
has-disjoined s below e h = disjoined-at h.0 h.1 below (sym e ∙ h.2)

disjoined-left-at : (tree right : Tree) (under below rest : List Item) → Disjoin ∷ below ≡ tree_parts tree under → below ≡ tree_parts right rest → HasTree rest
disjoined-left-at (disjunction a b) right under below rest e h = (a, under, sym (same-tree b right (tree_parts a under) rest (sym (ap below_top e) ∙ h)).1)
disjoined-left-at _ right under below rest e h = absurd cc

-- the left side of `or`, once its right side was taken
pub has-disjoined-left : (right : Tree) (s below rest : List Item) → s ≡ Disjoin ∷ below → HasTree s → below ≡ tree_parts right rest → HasTree rest
has-disjoined-left right s below rest e h taken = disjoined-left-at h.0 right h.1 below rest (sym e ∙ h.2) taken

arith-longer : (tree : ArithTree) (below : List Item) → length below < length (arith_parts tree below)
arith-longer (number n) below = omega arith
arith-longer packet_length below = omega arith
arith-longer (accessor p index size) below = let inner = arith-longer index below in omega arith
arith-longer (operation a o b) below = let left = arith-longer a below in let right = arith-longer b (arith_parts a below) in omega arith

-- what is below a tree's parts is shorter
pub fewer-arith : (tree : ArithTree) (below s : List Item) → s ≡ arith_parts tree below → length below < length s
fewer-arith tree below s e = rw e (arith-longer tree below)

tree-longer : (tree : Tree) (below : List Item) → length below < length (tree_parts tree below)
tree-longer (primitive p) below = omega arith
tree-longer (relation a r b) below = let left = arith-longer a below in let right = arith-longer b (arith_parts a below) in omega arith
tree-longer (negation e) below = let inner = tree-longer e below in omega arith
tree-longer (conjunction a b) below = let left = tree-longer a below in let right = tree-longer b (tree_parts a below) in omega arith
tree-longer (disjunction a b) below = let left = tree-longer a below in let right = tree-longer b (tree_parts a below) in omega arith

pub fewer-tree : (tree : Tree) (below s : List Item) → s ≡ tree_parts tree below → length below < length s
fewer-tree tree below s e = rw e (tree-longer tree below)

-- a part that may be the last of an arithmetic expression
abbrev pub IsArithmetic : Option Item → Type 0
IsArithmetic (Some (Number n)) = Unit {0}
IsArithmetic (Some Length) = Unit {0}
IsArithmetic (Some (Access p size)) = Unit {0}
IsArithmetic (Some (Operate o)) = Unit {0}
IsArithmetic _ = ⊥

arithmetic-on : (tree : ArithTree) (below : List Item) → IsArithmetic (top_of (arith_parts tree below))
arithmetic-on (number n) below = tt
arithmetic-on packet_length below = tt
arithmetic-on (accessor p index size) below = tt
arithmetic-on (operation a o b) below = tt

pub arithmetic-top : (s : List Item) (top : Option Item) → top_of s ≡ top → HasArithmetic s → IsArithmetic top
arithmetic-top s top t h = subst IsArithmetic (ap top_of (sym h.2) ∙ t) (arithmetic-on h.0 h.1)

-- a part that may be the last of an expression
abbrev pub IsTruth : Option Item → Type 0
IsTruth (Some (Primitive p)) = Unit {0}
IsTruth (Some (Relate r)) = Unit {0}
IsTruth (Some Negate) = Unit {0}
IsTruth (Some Conjoin) = Unit {0}
IsTruth (Some Disjoin) = Unit {0}
IsTruth _ = ⊥

truth-on : (tree : Tree) (below : List Item) → IsTruth (top_of (tree_parts tree below))
truth-on (primitive p) below = tt
truth-on (relation a r b) below = tt
truth-on (negation e) below = tt
truth-on (conjunction a b) below = tt
truth-on (disjunction a b) below = tt

pub truth-top : (s : List Item) (top : Option Item) → top_of s ≡ top → HasTree s → IsTruth top
truth-top s top t h = subst IsTruth (ap top_of (sym h.2) ∙ t) (truth-on h.0 h.1)
