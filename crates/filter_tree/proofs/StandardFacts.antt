-- Worked expressions of pcap-filter(7) on a datagram, so that a slip in a definition does not check.
use Rattle.std.specs.Prelude.{◌≡◌, ◌+◌, ◌∷◌, ◌++◌, List, [], codes, drop, refl, take, ℕ}
use Rattle.std.specs.Fmt.{digits}
use Rattle.ipv4_fields.specs.Field.{field_of}
use Rattle.filter_tree.specs.declared.arithmetic.Operator.TheVariants.{Add, Divide, Multiply, ShiftLeft, Subtract}
use Rattle.filter_tree.specs.declared.arithmetic.Protocol.TheVariants.{Icmp, Ip as IpData, Tcp as TcpData, Udp as UdpData}
use Rattle.filter_tree.specs.declared.arithmetic.Size.TheVariants.{One, Two}
use Rattle.filter_tree.specs.declared.expression.Relation.TheVariants.{Equal}
use Rattle.filter_tree.specs.declared.primitive.Direction.TheVariants.{Both, Either, Source}
use Rattle.filter_tree.specs.declared.primitive.Primitive.TheVariants.{AtMost, Host, Ip, Net, Port, PortRange, Proto}
use Rattle.filter_tree.specs.declared.primitive.Transport.TheVariants.{Tcp, Unnamed}
use Rattle.filter_tree.specs.declared.truth.Truth.TheVariants.{Fails, No, Yes}
use Rattle.filter_tree.specs.Measure.{cells_of, depth_of, size_of}
use Rattle.filter_tree.specs.Text.{printed}
use Rattle.filter_tree.specs.Tree.{ArithTree, Tree, accessor, conjunction, disjunction, negation, number, operation, packet_length, primitive, relation}
use Rattle.filter_tree.specs.Truth.{truth_of}

-- 29 bytes of UDP from 10.0.0.1:5000 to 10.0.0.2:53, with the payload 0x61
abbrev datagram : List ℕ
datagram =
    0x45 ∷ 0 ∷ 0 ∷ 29 ∷ 0 ∷ 0 ∷ 0 ∷ 0 ∷ 64 ∷ 17 ∷ 0 ∷ 0 ∷ 10 ∷ 0 ∷ 0 ∷ 1 ∷ 10 ∷ 0 ∷ 0 ∷ 2
    ∷ 0x13 ∷ 0x88 ∷ 0 ∷ 53 ∷ 0 ∷ 9 ∷ 0 ∷ 0 ∷ 0x61 ∷ []

-- the same with another byte at a place
abbrev with_byte : ℕ → ℕ → List ℕ
with_byte place byte = take place datagram ++ byte ∷ drop (place + 1) datagram

abbrev byte_of_udp : ℕ → ArithTree
byte_of_udp index = accessor UdpData (number index) One

abbrev udp : Tree
udp = primitive (Proto 17)

abbrev port_53 : Tree
port_53 = primitive (Port Unnamed Either 53)

-- port 53 and src port 53
port : truth_of port_53 datagram ≡ Yes
unfolding field_of
port = refl

source_port : truth_of (primitive (Port Unnamed Source 53)) datagram ≡ No
unfolding field_of
source_port = refl

-- a later fragment has no ports
fragment : truth_of port_53 (with_byte 7 1) ≡ No
unfolding field_of
fragment = refl

-- cut behind the source port, which matches or not
cut_ports : truth_of (primitive (Port Unnamed Either 5000)) (take 22 datagram) ≡ Yes
unfolding field_of
cut_ports = refl

cut_destination_port : truth_of port_53 (take 22 datagram) ≡ Fails
unfolding field_of
cut_destination_port = refl

-- portrange 60-50
range : truth_of (primitive (PortRange Unnamed Either 60 50)) datagram ≡ Yes
unfolding field_of
range = refl

-- src and dst net 10.0.0.0/8
nets : truth_of (primitive (Net Both (record { address = 0x0a00_0000; bits = 8 }))) datagram ≡ Yes
unfolding field_of
nets = refl

-- udp[8] = 0x61
payload : truth_of (relation (byte_of_udp 8) Equal (number 0x61)) datagram ≡ Yes
unfolding field_of
payload = refl

-- udp[4294967276] = 0x45: the place is modulo 2^32
place_wraps : truth_of (relation (byte_of_udp 4294967276) Equal (number 0x45)) datagram ≡ Yes
unfolding field_of
place_wraps = refl

-- not udp[100] = 1, of UDP and of TCP
failed_load : truth_of (negation (relation (byte_of_udp 100) Equal (number 1))) datagram ≡ Fails
unfolding field_of
failed_load = refl

guarded_load : truth_of (negation (relation (byte_of_udp 100) Equal (number 1))) (with_byte 9 6) ≡ Yes
unfolding field_of
guarded_load = refl

-- udp[9] = 0 or ip
failure_before_or : truth_of (disjunction (relation (byte_of_udp 9) Equal (number 0)) (primitive Ip)) datagram ≡ Fails
unfolding field_of
failure_before_or = refl

-- udp or ip and port 53, to port 99
left_to_right : truth_of (conjunction (disjunction udp (primitive Ip)) port_53) (with_byte 23 99) ≡ No
unfolding field_of
left_to_right = refl

-- not 1 / 0 = 0, and 1 << 32 = 1 - 1
zero_divisor : truth_of (negation (relation (operation (number 1) Divide (number 0)) Equal (number 0))) [] ≡ Fails
zero_divisor = refl

long_shift : truth_of (relation (operation (number 1) ShiftLeft (number 32)) Equal (operation (number 1) Subtract (number 1))) [] ≡ Yes
long_shift = refl

-- 1 - 2 = 4294967295
difference_wraps : truth_of (relation (operation (number 1) Subtract (number 2)) Equal (number 4294967295)) [] ≡ Yes
difference_wraps = refl

-- not udp or ip and port 53
abbrev connected : Tree
connected = conjunction (disjunction (negation udp) (primitive Ip)) port_53

connected_text : printed connected ≡ codes "( ( not ip proto 17 or ip ) and port 53 )"
unfolding digits
connected_text = refl

connected_depth : depth_of connected ≡ 4
connected_depth = refl

connected_size : size_of connected ≡ 44
connected_size = refl

-- 1 + 2 * len = ip[0 : 2]
abbrev computed : Tree
computed =
    relation
    (operation (number 1) Add (operation (number 2) Multiply packet_length))
    Equal
    (accessor IpData (number 0) Two)

computed_text : printed computed ≡ codes "( 1 + ( 2 * len ) ) = ip[0:2]"
unfolding digits
computed_text = refl

computed_cells : cells_of computed ≡ 2
computed_cells = refl

computed_size : size_of computed ≡ 27
computed_size = refl

-- udp[(1 + 2)/3] = 97
abbrev divided : Tree
divided =
    relation (accessor UdpData (operation (operation (number 1) Add (number 2)) Divide (number 3)) One) Equal (number 97)

divided_text : printed divided ≡ codes "udp[((1+2)/3):1] = 97"
unfolding digits
divided_text = refl

-- tcp[0] = icmp[0] or less 28: both protocols are asked for
two_protocols : size_of (disjunction (relation (accessor TcpData (number 0) One) Equal (accessor Icmp (number 0) One)) (primitive (AtMost 28))) ≡ 39
two_protocols = refl

host_text : printed (primitive (Host Either 0x7f00_0001)) ≡ codes "host 127.0.0.1"
unfolding digits
host_text = refl

range_text : printed (primitive (PortRange Tcp Source 60 50)) ≡ codes "tcp src portrange 60-50"
unfolding digits
range_text = refl

-- a packet of nine bytes with a fragment offset: the missing protocol decides before the offset
protocol_before_fragment : truth_of (relation (byte_of_udp 0) Equal (number 0)) (take 9 (with_byte 7 1)) ≡ Fails
unfolding field_of
protocol_before_fragment = refl

-- one byte of another version: it decides before the missing protocol
version_before_protocol : truth_of (relation (byte_of_udp 0) Equal (number 0)) (0x65 ∷ []) ≡ No
unfolding field_of
version_before_protocol = refl
