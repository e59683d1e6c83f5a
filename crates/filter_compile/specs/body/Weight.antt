-- The most instructions of a part by what is known where it begins: the test of the version that comes first in it is left out
-- where the version is known to be 4, and so is all that comes before ports where it is known to hold.
use Rattle.std.specs.Prelude.{◌+◌, ◌&&◌, if◌then◌else◌, Bool, None, Option, Some, false, true, ℕ}
use Rattle.filter_tree.specs.declared.arithmetic.Protocol.{Protocol}
use Rattle.filter_tree.specs.declared.arithmetic.Protocol.TheVariants.{Icmp, Tcp as TcpData, Udp as UdpData}
use Rattle.filter_tree.specs.declared.primitive.Primitive.{Primitive}
use Rattle.filter_tree.specs.declared.primitive.Primitive.TheVariants.{AtLeast, AtMost, Host, Ip, Net, Port, PortRange, Proto}
use Rattle.filter_tree.specs.declared.primitive.Transport.{Transport}
use Rattle.filter_tree.specs.Measure.{by_direction, weight_of, weight_of_arith, weight_where}
use Rattle.filter_tree.specs.Tree.{Tree, conjunction, disjunction, negation, primitive, relation}
use Rattle.filter_tree.specs.Truth.{accesses_of_both, any_accessor, any_transport}
use Rattle.filter_facts.specs.declared.known.Known.{Known}
use Rattle.filter_facts.specs.Told.{first_fragment_of, ip_of, transport_of}
use Rattle.filter_compile.specs.body.Header.{weight_of_transport}

-- the most instructions of the test of the version, by what is told of it
abbrev pub version_weight : Option Bool → ℕ
version_weight None = 5
version_weight (Some false) = 5
version_weight (Some true) = 0

abbrev pub version_weight_under : Known → ℕ
version_weight_under known = version_weight (ip_of known)

abbrev pub is_yes : Option Bool → Bool
is_yes (Some true) = true
is_yes _ = false

-- whether all that comes before ports is known to hold: the version, the protocol and the fragment
abbrev pub leads_to_ports : Known → Transport → Bool
leads_to_ports known transport = first_fragment_of known && is_yes (transport_of known transport)

-- the most instructions of what comes before ports
abbrev pub ports_weight_under : Known → Transport → ℕ
ports_weight_under known transport = if leads_to_ports known transport then 0 else weight_of_transport transport + 4 + version_weight_under known

-- the most instructions of a primitive, of a relation's guards and of an expression. The primitive `ip` counts whole: where it
-- is known it is a jump still
abbrev pub weight_of_primitive_under : Known → Primitive → ℕ
weight_of_primitive_under known Ip = 5
weight_of_primitive_under known (Proto n) = version_weight_under known + 4
weight_of_primitive_under known (Host direction address) = version_weight_under known + by_direction direction 4 8
weight_of_primitive_under known (Net direction prefix) = version_weight_under known + by_direction direction 5 10
weight_of_primitive_under known (Port transport direction n) = ports_weight_under known transport + by_direction direction 5 9
weight_of_primitive_under known (PortRange transport direction n m) = ports_weight_under known transport + by_direction direction 8 15
weight_of_primitive_under known (AtMost n) = 4
weight_of_primitive_under known (AtLeast n) = 4

abbrev pub weight_of_guards_under : Known → (Protocol → Bool) → ℕ
weight_of_guards_under known used =
    weight_where (any_accessor used) (version_weight_under known)
    + weight_where (used TcpData) 4
    + weight_where (used UdpData) 4
    + weight_where (used Icmp) 4
    + weight_where (any_transport used) 4

abbrev pub weight_under : Known → Tree → ℕ
weight_under known (primitive p) = weight_of_primitive_under known p
weight_under known (relation left relator right) =
    weight_of_arith left + weight_of_arith right + 6 + weight_of_guards_under known (accesses_of_both left right)
weight_under known (negation tree) = weight_under known tree
weight_under known (conjunction left right) = weight_under known left + weight_of right
weight_under known (disjunction left right) = weight_under known left + weight_of right
