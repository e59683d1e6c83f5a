-- The outcome of each test by the facts, none if the test has to be made. Protocol and fragment are known only of a packet that
-- is known to be IPv4; of the fragment it is only known that it is the first.
use Rattle.std.specs.Prelude.{◌==◌, ◌≢◌, ◌&&◌, ◌||◌, if◌then◌else◌, Bool, None, Option, Some, false, true, ℕ}
use Rattle.filter_tree.specs.declared.arithmetic.Protocol.{Protocol as DataProtocol}
use Rattle.filter_tree.specs.declared.arithmetic.Protocol.TheVariants.{Icmp as IcmpData, Tcp as TcpData, Udp as UdpData}
use Rattle.filter_tree.specs.declared.primitive.Primitive.{Primitive}
use Rattle.filter_tree.specs.declared.primitive.Primitive.TheVariants.{AtLeast, AtMost, Host, Ip, Net, Port, PortRange, Proto}
use Rattle.filter_tree.specs.declared.primitive.Transport.{Transport}
use Rattle.filter_tree.specs.declared.primitive.Transport.TheVariants.{Tcp, Udp, Unnamed}
use Rattle.filter_tree.specs.Primitive.{has_ports}
use Rattle.filter_tree.specs.Truth.{any_accessor}
use Rattle.filter_facts.specs.declared.header.Header.{Header}
use Rattle.filter_facts.specs.declared.header.Header.TheVariants as header_is
use Rattle.filter_facts.specs.declared.header.Protocol.{Protocol}
use Rattle.filter_facts.specs.declared.header.Protocol.TheVariants.{Any, Is, IsNot}
use Rattle.filter_facts.specs.declared.known.Known.{Known}
use Rattle.filter_facts.specs.declared.load.Loaded.{Loaded}

-- what two agree on
abbrev pub agreed : Option Bool → Option Bool → Option Bool
agreed (Some true) (Some true) = Some true
agreed (Some false) (Some false) = Some false
agreed _ _ = None

-- whether the packet is IPv4
abbrev pub ip_told : Header → Option Bool
ip_told header_is.Any = None
ip_told header_is.NotIpv4 = Some false
ip_told (header_is.Ipv4 protocol ports first) = Some true

-- what is known of the protocol, and whether the packet is known to have the beginning of the datagram
abbrev pub protocol_in : Header → Protocol
protocol_in header_is.Any = Any
protocol_in header_is.NotIpv4 = Any
protocol_in (header_is.Ipv4 protocol ports first) = protocol

abbrev pub first_in : Header → Bool
first_in header_is.Any = false
first_in header_is.NotIpv4 = false
first_in (header_is.Ipv4 protocol ports first) = first

-- whether the protocol has a number
abbrev pub number_told : Protocol → ℕ → Option Bool
number_told Any n = None
number_told (Is m) n = Some (m == n)
number_told (IsNot m) n = if m == n then Some false else None

-- whether it is known by its number
abbrev pub is_number : Protocol → Bool
is_number Any = false
is_number (Is n) = true
is_number (IsNot n) = false

-- whether it is TCP, UDP or SCTP
abbrev pub ports_told : Protocol → Bool → Option Bool
ports_told Any ports = if ports then Some true else None
ports_told (Is n) ports = Some (has_ports Unnamed n)
ports_told (IsNot n) ports = if ports then Some true else None

abbrev pub ports_in : Header → Option Bool
ports_in header_is.Any = None
ports_in header_is.NotIpv4 = None
ports_in (header_is.Ipv4 protocol ports first) = ports_told protocol ports

-- a protocol is named
abbrev pub IsNamed : Transport → Type 0
IsNamed transport = transport ≢ Unnamed

-- whether it is the named one or, if none is named, TCP, UDP or SCTP
abbrev pub named_told : Header → Transport → Option Bool
named_told header Tcp = number_told (protocol_in header) 6
named_told header Udp = number_told (protocol_in header) 17
named_told header Unnamed = ports_in header

abbrev pub ip_of : Known → Option Bool
ip_of known = ip_told known.header

abbrev pub protocol_of : Known → ℕ → Option Bool
protocol_of known n = number_told (protocol_in known.header) n

abbrev pub transport_of : Known → Transport → Option Bool
transport_of known transport = named_told known.header transport

abbrev pub knows_number : Known → Bool
knows_number known = is_number (protocol_in known.header)

abbrev pub first_fragment_of : Known → Bool
first_fragment_of known = first_in known.header

-- whether X is known to have the length of the header
abbrev pub header_in_x_of : Known → Bool
header_in_x_of known = known.header_in_x

-- the number that A is known to have, if any
abbrev pub in_a_of : Known → Option Loaded
in_a_of known = known.in_a

-- what is known of the packet
abbrev pub header_of : Known → Header
header_of known = known.header

-- an answer that is no
abbrev pub is_no : Option Bool → Bool
is_no (Some false) = true
is_no _ = false

-- whether anything is known of the protocol: that it was loaded
abbrev pub is_known : Protocol → Bool
is_known Any = false
is_known (Is n) = true
is_known (IsNot n) = true

abbrev pub knows_protocol : Known → Bool
knows_protocol known = is_known (protocol_in known.header)

-- whether a primitive is known to be false, without a load before that may fail
abbrev pub has_no_ports : Known → Transport → Bool
has_no_ports known transport = is_no (ip_of known) || is_no (transport_of known transport)

abbrev pub excludes_of : Known → Primitive → Bool
excludes_of known Ip = is_no (ip_of known)
excludes_of known (Proto n) = is_no (ip_of known) || is_no (protocol_of known n)
excludes_of known (Host direction address) = is_no (ip_of known)
excludes_of known (Net direction prefix) = is_no (ip_of known)
excludes_of known (Port transport direction n) = has_no_ports known transport
excludes_of known (PortRange transport direction n m) = has_no_ports known transport
excludes_of known (AtMost n) = false
excludes_of known (AtLeast n) = false

-- whether the guards of what accessors read are
abbrev pub excludes_guards_of : Known → (DataProtocol → Bool) → Bool
excludes_guards_of known used =
    (any_accessor used && is_no (ip_of known))
    || (used TcpData && is_no (protocol_of known 6))
    || (used UdpData && is_no (protocol_of known 17))
    || (used IcmpData && is_no (protocol_of known 1))
