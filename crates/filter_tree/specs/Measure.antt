-- The measures of a tree: its depth, the most scratch cells that its program uses, and the most instructions that its
-- program has (docs/EXPRESSIONS.md, "Measures").
use Rattle.std.specs.Prelude.{◌+◌, Bool, false, max, true, ℕ}
use Rattle.filter_tree.specs.declared.arithmetic.Protocol.{Protocol}
use Rattle.filter_tree.specs.declared.arithmetic.Protocol.TheVariants.{Icmp, Ip as IpData, Tcp as TcpData, Udp as UdpData}
use Rattle.filter_tree.specs.declared.primitive.Direction.{Direction}
use Rattle.filter_tree.specs.declared.primitive.Direction.TheVariants.{Both, Destination, Either, Source}
use Rattle.filter_tree.specs.declared.primitive.Primitive.{Primitive}
use Rattle.filter_tree.specs.declared.primitive.Primitive.TheVariants.{AtLeast, AtMost, Host, Ip, Net, Port, PortRange, Proto}
use Rattle.filter_tree.specs.declared.primitive.Transport.TheVariants.{Tcp, Udp, Unnamed}
use Rattle.filter_tree.specs.Tree.{ArithTree, Tree, accessor, conjunction, disjunction, negation, number, operation, packet_length, primitive, relation}
use Rattle.filter_tree.specs.Truth.{accesses_of_both, any_accessor, any_transport}

-- a number, `len` and a primitive without arithmetic have depth 1, every other tree one more than its deepest part
abbrev pub depth_of_arith : ArithTree → ℕ
depth_of_arith (number n) = 1
depth_of_arith packet_length = 1
depth_of_arith (accessor protocol index size) = 1 + depth_of_arith index
depth_of_arith (operation left operator right) = 1 + max (depth_of_arith left) (depth_of_arith right)

abbrev pub depth_of : Tree → ℕ
depth_of (primitive p) = 1
depth_of (relation left relator right) = 1 + max (depth_of_arith left) (depth_of_arith right)
depth_of (negation tree) = 1 + depth_of tree
depth_of (conjunction left right) = 1 + max (depth_of left) (depth_of right)
depth_of (disjunction left right) = 1 + max (depth_of left) (depth_of right)

-- the left value of an operation or a relation can wait in a cell while the right one is computed
abbrev pub cells_of_arith : ArithTree → ℕ
cells_of_arith (number n) = 0
cells_of_arith packet_length = 0
cells_of_arith (accessor protocol index size) = cells_of_arith index
cells_of_arith (operation left operator right) = max (cells_of_arith left) (1 + cells_of_arith right)

abbrev pub cells_of : Tree → ℕ
cells_of (primitive p) = 0
cells_of (relation left relator right) = max (cells_of_arith left) (1 + cells_of_arith right)
cells_of (negation tree) = cells_of tree
cells_of (conjunction left right) = max (cells_of left) (cells_of right)
cells_of (disjunction left right) = max (cells_of left) (cells_of right)

-- the most instructions of an arithmetic expression
abbrev pub weight_of_arith : ArithTree → ℕ
weight_of_arith (number n) = 1
weight_of_arith packet_length = 1
weight_of_arith (accessor IpData index size) = weight_of_arith index + 2
weight_of_arith (accessor TcpData index size) = weight_of_arith index + 4
weight_of_arith (accessor UdpData index size) = weight_of_arith index + 4
weight_of_arith (accessor Icmp index size) = weight_of_arith index + 4
weight_of_arith (operation left operator right) = weight_of_arith left + weight_of_arith right + 4

-- the first number for one direction, the second for either or both
abbrev pub by_direction : Direction → ℕ → ℕ → ℕ
by_direction Source one two = one
by_direction Destination one two = one
by_direction Either one two = two
by_direction Both one two = two

-- the most instructions of a primitive without arithmetic
abbrev pub weight_of_primitive : Primitive → ℕ
weight_of_primitive Ip = 5
weight_of_primitive (Proto n) = 9
weight_of_primitive (Host direction address) = by_direction direction 9 13
weight_of_primitive (Net direction prefix) = by_direction direction 10 15
weight_of_primitive (Port Tcp direction n) = by_direction direction 18 22
weight_of_primitive (Port Udp direction n) = by_direction direction 18 22
weight_of_primitive (Port Unnamed direction n) = by_direction direction 24 28
weight_of_primitive (PortRange Tcp direction n m) = by_direction direction 21 28
weight_of_primitive (PortRange Udp direction n m) = by_direction direction 21 28
weight_of_primitive (PortRange Unnamed direction n m) = by_direction direction 27 34
weight_of_primitive (AtMost n) = 4
weight_of_primitive (AtLeast n) = 4

-- a weight that counts only if there is cause
abbrev pub weight_where : Bool → ℕ → ℕ
weight_where true n = n
weight_where false n = 0

-- the weight of a relation's guards: 5 with any accessor, 4 for each transport protocol and 4 with any
abbrev pub weight_of_guards : (Protocol → Bool) → ℕ
weight_of_guards used =
    weight_where (any_accessor used) 5
    + weight_where (used TcpData) 4
    + weight_where (used UdpData) 4
    + weight_where (used Icmp) 4
    + weight_where (any_transport used) 4

-- the most instructions of an expression, except the two that return
abbrev pub weight_of : Tree → ℕ
weight_of (primitive p) = weight_of_primitive p
weight_of (relation left relator right) =
    weight_of_arith left + weight_of_arith right + 6 + weight_of_guards (accesses_of_both left right)
weight_of (negation tree) = weight_of tree
weight_of (conjunction left right) = weight_of left + weight_of right
weight_of (disjunction left right) = weight_of left + weight_of right

-- the two instructions that return, and the rest
abbrev pub size_of : Tree → ℕ
size_of tree = 2 + weight_of tree
