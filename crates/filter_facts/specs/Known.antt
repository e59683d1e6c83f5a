-- The meaning of the facts about a packet, A and X. Each fact says that the packet has the bytes, and what they are or are not.
use Rattle.std.specs.Prelude.{◌≡◌, ◌≢◌, ◌*◌, List, None, Option, Some, Bool, false, true, ℕ}
use Rattle.ipv4_fields.specs.declared.header.Field.TheVariants as field_is
use Rattle.ipv4_fields.specs.Field.{field_of, ihl_of}
use Rattle.filter_tree.specs.declared.primitive.Transport.TheVariants.{Unnamed}
use Rattle.filter_tree.specs.declared.truth.Truth.{Truth}
use Rattle.filter_tree.specs.declared.truth.Truth.TheVariants.{No, Yes}
use Rattle.filter_tree.specs.Outcome.{tested}
use Rattle.filter_tree.specs.Primitive.{has_ports, is_first_fragment, is_ip}
use Rattle.filter_facts.specs.declared.header.Header.{Header}
use Rattle.filter_facts.specs.declared.header.Header.TheVariants as header_is
use Rattle.filter_facts.specs.declared.header.Protocol.{Protocol}
use Rattle.filter_facts.specs.declared.header.Protocol.TheVariants.{Any, Is, IsNot}
use Rattle.filter_facts.specs.declared.known.Known.{Known}
use Rattle.filter_facts.specs.declared.load.Loaded.{Loaded}
use Rattle.filter_facts.specs.declared.load.Loaded.TheVariants as loaded_is

-- what is known of a truth, if anything is
abbrev pub Settles : Option Bool → Truth → Type 0
Settles None truth = Unit {0}
Settles (Some true) truth = truth ≡ Yes
Settles (Some false) truth = truth ≡ No

-- the packet's protocol is as known
abbrev pub IsProtocol : Protocol → List ℕ → Type 0
IsProtocol Any packet = Unit {0}
IsProtocol (Is n) packet = field_of field_is.Protocol packet ≡ Some n
IsProtocol (IsNot n) packet = (m : ℕ) × (field_of field_is.Protocol packet ≡ Some m) × (m ≢ n)

-- it is one that has ports, if that is known
abbrev pub HasPorts : Bool → List ℕ → Type 0
HasPorts false packet = Unit {0}
HasPorts true packet = tested (has_ports Unnamed) (field_of field_is.Protocol packet) ≡ Yes

-- it has the beginning of the datagram, if that is known
abbrev pub IsFirst : Bool → List ℕ → Type 0
IsFirst false packet = Unit {0}
IsFirst true packet = is_first_fragment packet ≡ Yes

-- its header is as known
abbrev pub IsHeader : Header → List ℕ → Type 0
IsHeader header_is.Any packet = Unit {0}
IsHeader header_is.NotIpv4 packet = is_ip packet ≡ No
IsHeader (header_is.Ipv4 protocol ports first) packet = (is_ip packet ≡ Yes) × IsProtocol protocol packet × HasPorts ports packet × IsFirst first packet

-- X is as known: it has the length of the packet's IPv4 header, or nothing is known of it
abbrev pub Knows : Bool → List ℕ → ℕ → Type 0
Knows false packet x = Unit {0}
Knows true packet x = (ihl : ℕ) × (ihl_of packet ≡ Some ihl) × (x ≡ 4 * ihl)

-- the number that is loaded of a packet, none if the packet lacks a byte of it
abbrev pub loaded_of : Loaded → List ℕ → Option ℕ
loaded_of loaded_is.Protocol packet = field_of field_is.Protocol packet
loaded_of loaded_is.Source packet = field_of field_is.Source packet
loaded_of loaded_is.Destination packet = field_of field_is.Destination packet
loaded_of loaded_is.SourcePort packet = field_of field_is.SourcePort packet
loaded_of loaded_is.DestinationPort packet = field_of field_is.DestinationPort packet

-- A is as known: it has the number that was loaded of the packet, or nothing is known of it
abbrev pub IsInA : Option Loaded → List ℕ → ℕ → Type 0
IsInA None packet a = Unit {0}
IsInA (Some loaded) packet a = loaded_of loaded packet ≡ Some a

-- the packet, A and X are as known
abbrev pub Holds : Known → List ℕ → ℕ → ℕ → Type 0
Holds known packet a x = IsHeader known.header packet × Knows known.header_in_x packet x × IsInA known.in_a packet a
