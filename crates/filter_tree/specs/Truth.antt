-- The meaning of an expression on a packet (pcap-filter(7); docs/EXPRESSIONS.md, "What an expression means"). It depends on the
-- packet's bytes and their number alone.
use Rattle.std.specs.Prelude.{◌==◌, ◌≡◌, ◌||◌, Bool, List, None, Option, Some, nat_le, nat_lt, not, ℕ}
use Rattle.filter_tree.specs.declared.sides.Accesses.{Accesses}
use Rattle.filter_tree.specs.declared.arithmetic.Protocol.{Protocol}
use Rattle.filter_tree.specs.declared.arithmetic.Protocol.TheVariants.{Icmp, Ip, Tcp, Udp}
use Rattle.filter_tree.specs.declared.expression.Relation.{Relation}
use Rattle.filter_tree.specs.declared.expression.Relation.TheVariants.{Equal, Greater, GreaterOrEqual, Less, LessOrEqual, NotEqual}
use Rattle.filter_tree.specs.declared.truth.Truth.{Truth}
use Rattle.filter_tree.specs.declared.truth.Truth.TheVariants.{Fails, Yes}
use Rattle.filter_tree.specs.Arithmetic.{accesses, value_of_arith}
use Rattle.filter_tree.specs.Outcome.{◌and_then◌, ◌or_else◌, answer, opposite, where_so}
use Rattle.filter_tree.specs.Primitive.{is_first_fragment, is_ip, is_protocol, truth_of_primitive}
use Rattle.filter_tree.specs.Tree.{ArithTree, Tree, conjunction, disjunction, negation, primitive, relation}

-- whether a relation is true of two numbers
abbrev pub holds : Relation → ℕ → ℕ → Bool
holds Greater a b = nat_lt b a
holds Less a b = nat_lt a b
holds GreaterOrEqual a b = nat_le b a
holds LessOrEqual a b = nat_le a b
holds Equal a b = a == b
holds NotEqual a b = not (a == b)

-- a relation of two values, which fails if either is missing
abbrev pub compared : Relation → Option ℕ → Option ℕ → Truth
compared relator None right = Fails
compared relator (Some a) None = Fails
compared relator (Some a) (Some b) = answer (holds relator a b)

-- the protocols of the accessors of a relation's two sides
abbrev pub accesses_of_both : ArithTree → ArithTree → Protocol → Bool
accesses_of_both left right protocol = accesses left protocol || accesses right protocol

-- the protocols among them
abbrev pub used_by : Accesses → Protocol → Bool
used_by used Ip = used.ip
used_by used Tcp = used.tcp
used_by used Udp = used.udp
used_by used Icmp = used.icmp

-- whether any of them is a transport protocol's, and whether there is any
abbrev pub any_transport : (Protocol → Bool) → Bool
any_transport used = used Tcp || used Udp || used Icmp

abbrev pub any_accessor : (Protocol → Bool) → Bool
any_accessor used = used Ip || any_transport used

-- the tests of a relation before its accessors: an IPv4 packet, the protocols whose data is read, and, if any is, that the packet
-- has the beginning of that data
abbrev pub guards : (Protocol → Bool) → List ℕ → Truth
guards used packet =
    where_so (any_accessor used) (is_ip packet)
    and_then where_so (used Tcp) (is_protocol 6 packet)
    and_then where_so (used Udp) (is_protocol 17 packet)
    and_then where_so (used Icmp) (is_protocol 1 packet)
    and_then where_so (any_transport used) (is_first_fragment packet)

-- the truth of an expression on a packet
abbrev pub truth_of : Tree → List ℕ → Truth
truth_of (primitive p) packet = truth_of_primitive p packet
truth_of (relation left relator right) packet =
    guards (accesses_of_both left right) packet
    and_then compared relator (value_of_arith left packet) (value_of_arith right packet)
truth_of (negation tree) packet = opposite (truth_of tree packet)
truth_of (conjunction left right) packet = truth_of left packet and_then truth_of right packet
truth_of (disjunction left right) packet = truth_of left packet or_else truth_of right packet

-- a packet is accepted if the truth is yes
abbrev pub accepts : Tree → List ℕ → Type 0
accepts tree packet = truth_of tree packet ≡ Yes
