-- The printed text of a tree (docs/EXPRESSIONS.md, "How an expression is printed").
use Rattle.std.specs.Prelude.{◌/◌, ◌%◌, ◌^◌, ◌++◌, List, [], codes, ℕ}
use Rattle.std.specs.Fmt.{decimal}
use Rattle.filter_tree.specs.declared.arithmetic.Operator.{Operator}
use Rattle.filter_tree.specs.declared.arithmetic.Operator.TheVariants.{Add, And, Divide, ExclusiveOr, Modulo, Multiply, Or, ShiftLeft, ShiftRight, Subtract}
use Rattle.filter_tree.specs.declared.arithmetic.Protocol.{Protocol}
use Rattle.filter_tree.specs.declared.arithmetic.Protocol.TheVariants.{Icmp, Ip as IpData, Tcp as TcpData, Udp as UdpData}
use Rattle.filter_tree.specs.declared.arithmetic.Size.{Size}
use Rattle.filter_tree.specs.declared.arithmetic.Size.TheVariants.{Four, One, Two}
use Rattle.filter_tree.specs.declared.expression.Relation.{Relation}
use Rattle.filter_tree.specs.declared.expression.Relation.TheVariants.{Equal, Greater, GreaterOrEqual, Less, LessOrEqual, NotEqual}
use Rattle.filter_tree.specs.declared.primitive.Direction.{Direction}
use Rattle.filter_tree.specs.declared.primitive.Direction.TheVariants.{Both, Destination, Either, Source}
use Rattle.filter_tree.specs.declared.primitive.Primitive.{Primitive}
use Rattle.filter_tree.specs.declared.primitive.Primitive.TheVariants.{AtLeast, AtMost, Host, Ip, Net, Port, PortRange, Proto}
use Rattle.filter_tree.specs.declared.primitive.Transport.{Transport}
use Rattle.filter_tree.specs.declared.primitive.Transport.TheVariants.{Tcp, Udp, Unnamed}
use Rattle.filter_tree.specs.Tree.{ArithTree, Tree, accessor, conjunction, disjunction, negation, number, operation, packet_length, primitive, relation}

-- operators, relations, protocols and sizes as they are written
abbrev pub printed_operator : Operator → List ℕ
printed_operator Or = codes "|"
printed_operator ExclusiveOr = codes "^"
printed_operator And = codes "&"
printed_operator ShiftLeft = codes "<<"
printed_operator ShiftRight = codes ">>"
printed_operator Add = codes "+"
printed_operator Subtract = codes "-"
printed_operator Multiply = codes "*"
printed_operator Divide = codes "/"
printed_operator Modulo = codes "%"

abbrev pub printed_relation : Relation → List ℕ
printed_relation Greater = codes ">"
printed_relation Less = codes "<"
printed_relation GreaterOrEqual = codes ">="
printed_relation LessOrEqual = codes "<="
printed_relation Equal = codes "="
printed_relation NotEqual = codes "!="

abbrev pub printed_protocol : Protocol → List ℕ
printed_protocol IpData = codes "ip"
printed_protocol TcpData = codes "tcp"
printed_protocol UdpData = codes "udp"
printed_protocol Icmp = codes "icmp"

abbrev pub printed_size : Size → List ℕ
printed_size One = codes "1"
printed_size Two = codes "2"
printed_size Four = codes "4"

-- a direction with the space after it; either direction is written by no word
abbrev pub printed_direction : Direction → List ℕ
printed_direction Source = codes "src "
printed_direction Destination = codes "dst "
printed_direction Either = []
printed_direction Both = codes "src and dst "

-- a named protocol with the space after it
abbrev pub printed_transport : Transport → List ℕ
printed_transport Tcp = codes "tcp "
printed_transport Udp = codes "udp "
printed_transport Unnamed = []

-- an address as four decimal numbers
abbrev pub printed_address : ℕ → List ℕ
printed_address address =
    decimal (address / 2 ^ 24)
    ++ codes "."
    ++ decimal (address / 2 ^ 16 % 256)
    ++ codes "."
    ++ decimal (address / 2 ^ 8 % 256)
    ++ codes "."
    ++ decimal (address % 256)

-- a primitive without arithmetic
abbrev pub printed_primitive : Primitive → List ℕ
printed_primitive Ip = codes "ip"
printed_primitive (Proto n) = codes "ip proto " ++ decimal n
printed_primitive (Host direction address) = printed_direction direction ++ codes "host " ++ printed_address address
printed_primitive (Net direction prefix) =
    printed_direction direction ++ codes "net " ++ printed_address prefix.address ++ codes "/" ++ decimal prefix.bits
printed_primitive (Port transport direction n) =
    printed_transport transport ++ printed_direction direction ++ codes "port " ++ decimal n
printed_primitive (PortRange transport direction n m) =
    printed_transport transport ++ printed_direction direction ++ codes "portrange " ++ decimal n ++ codes "-" ++ decimal m
printed_primitive (AtMost n) = codes "less " ++ decimal n
printed_primitive (AtLeast n) = codes "greater " ++ decimal n

-- the text beside an operator: the gap, but nothing beside `/`
abbrev pub beside : Operator → List ℕ → List ℕ
beside Divide gap = []
beside _ gap = gap

-- an operation is in parentheses. The gap between tokens is a space, and nothing inside an accessor's brackets
abbrev pub printed_arith : List ℕ → ArithTree → List ℕ
printed_arith gap (number n) = decimal n
printed_arith gap packet_length = codes "len"
printed_arith gap (accessor protocol index size) =
    printed_protocol protocol ++ codes "[" ++ printed_arith [] index ++ codes ":" ++ printed_size size ++ codes "]"
printed_arith gap (operation left operator right) =
    codes "("
    ++ gap
    ++ printed_arith gap left
    ++ beside operator gap
    ++ printed_operator operator
    ++ beside operator gap
    ++ printed_arith gap right
    ++ gap
    ++ codes ")"

-- `and` and `or` are in parentheses with their two sides
abbrev pub printed : Tree → List ℕ
printed (primitive p) = printed_primitive p
printed (relation left relator right) =
    printed_arith (codes " ") left ++ codes " " ++ printed_relation relator ++ codes " " ++ printed_arith (codes " ") right
printed (negation tree) = codes "not " ++ printed tree
printed (conjunction left right) = codes "( " ++ printed left ++ codes " and " ++ printed right ++ codes " )"
printed (disjunction left right) = codes "( " ++ printed left ++ codes " or " ++ printed right ++ codes " )"
