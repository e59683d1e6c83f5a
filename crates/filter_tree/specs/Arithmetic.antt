-- The value of an arithmetic expression on a packet (pcap-filter(7), "expr1 relop expr2"): a number below 2^32, or none if a load
-- or a division fails.
use Rattle.std.specs.Prelude.{◌==◌, ◌+◌, ◌-◌, ◌*◌, ◌/◌, ◌%◌, ◌^◌, ◌||◌, if◌then◌else◌, Bool, List, None, Option, Some, bit_and, bit_or, bit_xor, false, length, nat_lt, option_and_then, option_map, true, ℕ}
use Rattle.ipv4_fields.specs.declared.header.Field.TheVariants.{Ihl}
use Rattle.ipv4_fields.specs.Field.{field_of, number_at}
use Rattle.filter_tree.specs.declared.arithmetic.Operator.{Operator}
use Rattle.filter_tree.specs.declared.arithmetic.Operator.TheVariants.{Add, And, Divide, ExclusiveOr, Modulo, Multiply, Or, ShiftLeft, ShiftRight, Subtract}
use Rattle.filter_tree.specs.declared.arithmetic.Protocol.{Protocol}
use Rattle.filter_tree.specs.declared.arithmetic.Protocol.TheVariants.{Icmp, Ip, Tcp, Udp}
use Rattle.filter_tree.specs.declared.arithmetic.Size.{Size}
use Rattle.filter_tree.specs.declared.arithmetic.Size.TheVariants.{Four, One, Two}
use Rattle.filter_tree.specs.Tree.{ArithTree, accessor, number, operation, packet_length}

-- the result of an operator on two 32-bit numbers, none if it divides by zero
abbrev pub combined : Operator → ℕ → ℕ → Option ℕ
combined Or a b = Some (bit_or a b)
combined ExclusiveOr a b = Some (bit_xor a b)
combined And a b = Some (bit_and a b)
combined ShiftLeft a b = Some (if nat_lt b 32 then a * 2 ^ b % 2 ^ 32 else 0)
combined ShiftRight a b = Some (if nat_lt b 32 then a / 2 ^ b else 0)
combined Add a b = Some ((a + b) % 2 ^ 32)
combined Subtract a b = Some ((a + 2 ^ 32 - b) % 2 ^ 32)
combined Multiply a b = Some (a * b % 2 ^ 32)
combined Divide a b = if b == 0 then None else Some (a / b)
combined Modulo a b = if b == 0 then None else Some (a % b)

-- the number of bytes that an accessor reads
abbrev pub byte_count : Size → ℕ
byte_count One = 1
byte_count Two = 2
byte_count Four = 4

-- index i after the IPv4 header, modulo 2^32; the header's length is that of the packet's first byte
abbrev pub behind_header : ℕ → List ℕ → Option ℕ
behind_header i packet = option_map (λ ihl. (4 * ihl + i) % 2 ^ 32) (field_of Ihl packet)

-- the place in the packet of index i of a protocol's data
abbrev pub place_of : Protocol → ℕ → List ℕ → Option ℕ
place_of Ip i packet = Some i
place_of Tcp i packet = behind_header i packet
place_of Udp i packet = behind_header i packet
place_of Icmp i packet = behind_header i packet

-- the big-endian number that an accessor reads at index i
abbrev pub loaded : Protocol → ℕ → Size → List ℕ → Option ℕ
loaded protocol i size packet = option_and_then (number_at (byte_count size) packet) (place_of protocol i packet)

-- the value of an arithmetic expression, none if any part of it has none
abbrev pub value_of_arith : ArithTree → List ℕ → Option ℕ
value_of_arith (number n) packet = Some n
value_of_arith packet_length packet = Some (length packet % 2 ^ 32)
value_of_arith (accessor protocol index size) packet =
    option_and_then (λ i. loaded protocol i size packet) (value_of_arith index packet)
value_of_arith (operation left operator right) packet =
    option_and_then (λ a. option_and_then (combined operator a) (value_of_arith right packet)) (value_of_arith left packet)

-- whether two protocols are the same
abbrev pub is_same : Protocol → Protocol → Bool
is_same Ip Ip = true
is_same Tcp Tcp = true
is_same Udp Udp = true
is_same Icmp Icmp = true
is_same _ _ = false

-- whether an accessor of a protocol is in an arithmetic expression, or in an index there
abbrev pub accesses : ArithTree → Protocol → Bool
accesses (number n) protocol = false
accesses packet_length protocol = false
accesses (accessor own index size) protocol = is_same own protocol || accesses index protocol
accesses (operation left operator right) protocol = accesses left protocol || accesses right protocol
