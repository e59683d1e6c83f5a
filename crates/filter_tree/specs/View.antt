-- What a contract sees of an expression.
use Rattle.filter_tree.specs.declared.arithmetic.Arith.{Arith}
use Rattle.filter_tree.specs.declared.arithmetic.Arith.TheVariants.{Number, Length, Accessor', Operation'}
use Rattle.filter_tree.specs.declared.expression.Expr.{Expr}
use Rattle.filter_tree.specs.declared.expression.Expr.TheVariants.{Primitive, Relation, Not', And', Or'}
use Rattle.filter_tree.specs.Tree.{ArithTree, Tree, accessor, conjunction, disjunction, negation, number, operation, packet_length, primitive, relation}

-- an arithmetic expression without its boxes and their allocator
abbrev pub arith_tree_of : {A : Type 0} → Arith A → ArithTree
arith_tree_of (Number n) = number n
arith_tree_of Length = packet_length
arith_tree_of (Accessor' protocol p index size) = accessor protocol (arith_tree_of index) size
arith_tree_of (Operation' p left operator q right) = operation (arith_tree_of left) operator (arith_tree_of right)

-- an expression without its boxes and their allocator
abbrev pub tree_of : {A : Type 0} → Expr A → Tree
tree_of (Primitive p) = primitive p
tree_of (Relation left relator right) = relation (arith_tree_of left) relator (arith_tree_of right)
tree_of (Not' p e) = negation (tree_of e)
tree_of (And' p left q right) = conjunction (tree_of left) (tree_of right)
tree_of (Or' p left q right) = disjunction (tree_of left) (tree_of right)
