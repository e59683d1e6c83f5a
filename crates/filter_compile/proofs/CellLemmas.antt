-- An expression has at least four times as many instructions as cells.
use Rattle.std.proofs.Common.{◌*◌, ◌≤◌, arith}
use Rattle.filter_tree.specs.declared.arithmetic.Protocol.TheVariants.{Icmp, Ip, Tcp, Udp}
use Rattle.filter_tree.specs.Tree.{ArithTree, Tree, accessor, conjunction, disjunction, negation, number, operation, packet_length, primitive, relation}
use Rattle.filter_tree.specs.Measure.{cells_of, cells_of_arith, weight_of, weight_of_arith}

pub few-arith : (tree : ArithTree) → 4 * cells_of_arith tree ≤ weight_of_arith tree
few-arith (number n) = omega arith
few-arith packet_length = omega arith
few-arith (accessor Ip index size) = let few = few-arith index in omega arith
few-arith (accessor Tcp index size) = let few = few-arith index in omega arith
few-arith (accessor Udp index size) = let few = few-arith index in omega arith
few-arith (accessor Icmp index size) = let few = few-arith index in omega arith
few-arith (operation left operator right) = let at_left = few-arith left in let at_right = few-arith right in omega arith

pub few : (tree : Tree) → 4 * cells_of tree ≤ weight_of tree
few (primitive p) = omega arith
few (relation left relator right) = let at_left = few-arith left in let at_right = few-arith right in omega arith
few (negation tree) = few tree
few (conjunction left right) = let at_left = few left in let at_right = few right in omega arith
few (disjunction left right) = let at_left = few left in let at_right = few right in omega arith
