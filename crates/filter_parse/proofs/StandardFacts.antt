-- Worked texts, with their trees and faults (docs/EXPRESSIONS.md), so that a slip in a definition does not check.
use Rattle.std.specs.Prelude.{◌≡◌, Err, None, Ok, Some, [], codes, refl}
use Rattle.filter_tree.specs.declared.arithmetic.Operator.TheVariants.{Add, Multiply, Subtract}
use Rattle.filter_tree.specs.declared.arithmetic.Protocol.TheVariants.{Ip as IpData}
use Rattle.filter_tree.specs.declared.arithmetic.Size.TheVariants.{Two}
use Rattle.filter_tree.specs.declared.expression.Relation.TheVariants.{Equal}
use Rattle.filter_tree.specs.declared.primitive.Direction.TheVariants.{Either, Source}
use Rattle.filter_tree.specs.declared.primitive.Primitive.TheVariants.{Ip, Net, Port, PortRange, Proto}
use Rattle.filter_tree.specs.declared.primitive.Transport.TheVariants.{Tcp, Unnamed}
use Rattle.filter_tree.specs.Tree.{accessor, conjunction, disjunction, negation, number, operation, packet_length, primitive, relation}
use Rattle.filter_parse.specs.declared.fault.ParseFault.TheVariants.{BadAddress, BadPrefix, NumberTooBig, Syntax, TooDeep}
use Rattle.filter_parse.specs.declared.TheConstants.{MAX_DEPTH}
use Rattle.filter_parse.specs.Fault.{bracket_fault}
use Rattle.filter_parse.specs.body.Parser.{postfix_of}
use Rattle.filter_parse.proofs.Gathered.{with_tree}

-- faults and their places
empty : postfix_of (codes "") ≡ Err (Syntax 0)
empty = refl

cut_short : postfix_of (codes "udp and") ≡ Err (Syntax 7)
cut_short = refl

cut_short_before_blanks : postfix_of (codes "udp and ") ≡ Err (Syntax 8)
cut_short_before_blanks = refl

leading_zero : postfix_of (codes "010 = 8") ≡ Err (Syntax 0)
leading_zero = refl

port_past_limit : postfix_of (codes "port 65536") ≡ Err (NumberTooBig 5)
port_past_limit = refl

part_past_limit : postfix_of (codes "host 10.0.0.256") ≡ Err (BadAddress 5)
part_past_limit = refl

host_bits : postfix_of (codes "net 10.0.0.1/8") ≡ Err (BadPrefix 13)
host_bits = refl

number_for_address : postfix_of (codes "host 10") ≡ Err (Syntax 5)
number_for_address = refl

bits_past_every_limit : postfix_of (codes "net 10.0.0.0/4294967296") ≡ Err (NumberTooBig 13)
bits_past_every_limit = refl

address_before_bits : postfix_of (codes "net 1.2.3.256/99") ≡ Err (BadAddress 4)
address_before_bits = refl

size_three : postfix_of (codes "ip[0:3] = 1") ≡ Err (Syntax 5)
size_three = refl

size_past_every_limit : postfix_of (codes "ip[0:4294967296] = 1") ≡ Err (Syntax 5)
size_past_every_limit = refl

name_in_number : postfix_of (codes "1 + (ip) = 2") ≡ Err (Syntax 7)
name_in_number = refl

number_before_and : postfix_of (codes "(1 + 2) and ip") ≡ Err (Syntax 8)
number_before_and = refl

relation_of_relation : postfix_of (codes "(1=1)=1") ≡ Err (Syntax 5)
relation_of_relation = refl

relation_in_brackets : postfix_of (codes "((1) = 2) = 3") ≡ Err (Syntax 10)
relation_in_brackets = refl

second_port_past_limit : postfix_of (codes "portrange 1-70000") ≡ Err (NumberTooBig 12)
second_port_past_limit = refl

address_for_number : postfix_of (codes "1.2 = 3") ≡ Err (Syntax 0)
address_for_number = refl

underscore_ends_number : postfix_of (codes "1_0 = 1") ≡ Err (Syntax 1)
underscore_ends_number = refl

capital_x : postfix_of (codes "0X10 = 1") ≡ Err (Syntax 0)
capital_x = refl

letters_in_number : postfix_of (codes "1a = 1") ≡ Err (Syntax 0)
letters_in_number = refl

direction_by_sign : postfix_of (codes "src || dst host 1.2.3.4") ≡ Err (Syntax 4)
direction_by_sign = refl

direction_exchanged : postfix_of (codes "dst or src host 1.2.3.4") ≡ Err (Syntax 4)
direction_exchanged = refl

direction_cut_short : postfix_of (codes "src or host 1.2.3.4") ≡ Err (Syntax 7)
direction_cut_short = refl

tcp_host : postfix_of (codes "tcp host 1.2.3.4") ≡ Err (Syntax 4)
tcp_host = refl

protocol_past_limit : postfix_of (codes "ip proto 256") ≡ Err (NumberTooBig 9)
protocol_past_limit = refl

length_alone : postfix_of (codes "len") ≡ Err (Syntax 3)
length_alone = refl

implied_qualifier : postfix_of (codes "host 1.2.3.4 or 5.6.7.8") ≡ Err (Syntax 16)
implied_qualifier = refl

name_in_relation : postfix_of (codes "ip < 3") ≡ Err (Syntax 3)
name_in_relation = refl

-- trees
and_and_or_alike : postfix_of (codes "udp or ip and port 53") ≡ Ok (with_tree (conjunction (disjunction (primitive (Proto 17)) (primitive Ip)) (primitive (Port Unnamed Either 53))) [])
and_and_or_alike = refl

not_before_or : postfix_of (codes "not udp or ip and port 53") ≡ Ok (with_tree (conjunction (disjunction (negation (primitive (Proto 17))) (primitive Ip)) (primitive (Port Unnamed Either 53))) [])
not_before_or = refl

products_before_sums : postfix_of (codes "1+2*len == ip[0 : 2]") ≡ Ok (with_tree (relation (operation (number 1) Add (operation (number 2) Multiply packet_length)) Equal (accessor IpData (number 0) Two)) [])
products_before_sums = refl

left_to_right : postfix_of (codes "1 - 2 - 3 = 4") ≡ Ok (with_tree (relation (operation (operation (number 1) Subtract (number 2)) Subtract (number 3)) Equal (number 4)) [])
left_to_right = refl

number_in_brackets : postfix_of (codes "((1) + 2) = 3") ≡ Ok (with_tree (relation (operation (number 1) Add (number 2)) Equal (number 3)) [])
number_in_brackets = refl

relation_alone_in_brackets : postfix_of (codes "((1) = 2)") ≡ Ok (with_tree (relation (number 1) Equal (number 2)) [])
relation_alone_in_brackets = refl

either_direction : postfix_of (codes "src or dst net 10.0.0.0 / 8") ≡ Ok (with_tree (primitive (Net Either (record { address = 167772160; bits = 8 }))) [])
either_direction = refl

ports_as_written : postfix_of (codes "tcp src portrange 0x10 - 9") ≡ Ok (with_tree (primitive (PortRange Tcp Source 16 9)) [])
ports_as_written = refl

-- as many brackets as may be open, and one more
sixty_fourth_bracket : bracket_fault 63 9 ≡ None
sixty_fourth_bracket = refl

sixty_fifth_bracket : bracket_fault 64 9 ≡ Some (TooDeep 9)
sixty_fifth_bracket = refl

greatest_depth : MAX_DEPTH ≡ 64
greatest_depth = refl
