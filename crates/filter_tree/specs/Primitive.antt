-- The meaning of a primitive without arithmetic on a packet (pcap-filter(7), "Primitives"; RFC 791, section 3.1). Its tests are
-- made in the order in which they are written.
use Rattle.std.specs.Prelude.{◌==◌, ◌&&◌, ◌||◌, Bool, List, length, max, min, nat_le, ℕ}
use Rattle.ipv4_fields.specs.declared.header.Field.TheVariants.{Destination as DestinationAddress, DestinationPort, FragmentOffset, Protocol, Source as SourceAddress, SourcePort, Version}
use Rattle.ipv4_fields.specs.Field.{field_of}
use Rattle.filter_tree.specs.declared.primitive.Direction.{Direction}
use Rattle.filter_tree.specs.declared.primitive.Direction.TheVariants.{Both, Destination, Either, Source}
use Rattle.filter_tree.specs.declared.primitive.Primitive.{Primitive}
use Rattle.filter_tree.specs.declared.primitive.Primitive.TheVariants.{AtLeast, AtMost, Host, Ip, Net, Port, PortRange, Proto}
use Rattle.filter_tree.specs.declared.primitive.Transport.{Transport}
use Rattle.filter_tree.specs.declared.primitive.Transport.TheVariants.{Tcp, Udp, Unnamed}
use Rattle.filter_tree.specs.declared.truth.Truth.{Truth}
use Rattle.filter_tree.specs.Outcome.{◌and_then◌, ◌or_else◌, answer, tested}
use Rattle.filter_tree.specs.Prefix.{covers}

-- the packet is IPv4
abbrev pub is_ip : List ℕ → Truth
is_ip packet = tested (λ version. version == 4) (field_of Version packet)

-- its protocol has this number
abbrev pub is_protocol : ℕ → List ℕ → Truth
is_protocol n packet = tested (λ protocol. protocol == n) (field_of Protocol packet)

-- it has the beginning of the datagram
abbrev pub is_first_fragment : List ℕ → Truth
is_first_fragment packet = tested (λ offset. offset == 0) (field_of FragmentOffset packet)

-- the protocols that have ports: the named one or, if none is named, TCP, UDP and SCTP
abbrev pub has_ports : Transport → ℕ → Bool
has_ports Tcp protocol = protocol == 6
has_ports Udp protocol = protocol == 17
has_ports Unnamed protocol = protocol == 6 || protocol == 17 || protocol == 132

-- the ends that a direction means pass their tests; the source is tested first
abbrev pub at_ends : Direction → Truth → Truth → Truth
at_ends Source source destination = source
at_ends Destination source destination = destination
at_ends Either source destination = source or_else destination
at_ends Both source destination = source and_then destination

-- an address passes a test
abbrev pub address_passes : Direction → (ℕ → Bool) → List ℕ → Truth
address_passes direction test packet =
    is_ip packet
    and_then at_ends direction (tested test (field_of SourceAddress packet)) (tested test (field_of DestinationAddress packet))

-- a port passes a test
abbrev pub port_passes : Transport → Direction → (ℕ → Bool) → List ℕ → Truth
port_passes transport direction test packet =
    is_ip packet
    and_then tested (has_ports transport) (field_of Protocol packet)
    and_then is_first_fragment packet
    and_then at_ends direction (tested test (field_of SourcePort packet)) (tested test (field_of DestinationPort packet))

-- whether a number is from the lesser to the greater of two
abbrev pub is_between : ℕ → ℕ → ℕ → Bool
is_between n m number = nat_le (min n m) number && nat_le number (max n m)

-- the truth of a primitive
abbrev pub truth_of_primitive : Primitive → List ℕ → Truth
truth_of_primitive Ip packet = is_ip packet
truth_of_primitive (Proto n) packet = is_ip packet and_then is_protocol n packet
truth_of_primitive (Host direction address) packet = address_passes direction (λ end. end == address) packet
truth_of_primitive (Net direction prefix) packet = address_passes direction (covers prefix) packet
truth_of_primitive (Port transport direction n) packet = port_passes transport direction (λ end. end == n) packet
truth_of_primitive (PortRange transport direction n m) packet = port_passes transport direction (is_between n m) packet
truth_of_primitive (AtMost n) packet = answer (nat_le (length packet) n)
truth_of_primitive (AtLeast n) packet = answer (nat_le n (length packet))
