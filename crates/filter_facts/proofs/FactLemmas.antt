-- What holds of a packet, of A and of X where the facts hold: the truth of each test that they settle, and the loads that were made.
use Rattle.std.proofs.Common.{◌≡◌, ◌∙◌, Bool, List, None, Some, ap, false, refl, subst, sym, true, ℕ, ⊎_elim}
use Rattle.std.specs.Prelude.{◌==◌, if◌then◌else◌}
use Rattle.std.proofs.lemmas.Bool.{cases_eq, eq-eqb, ne_eqb}
use Rattle.ipv4_fields.specs.declared.header.Field.TheVariants as field_is
use Rattle.ipv4_fields.specs.Field.{field_of}
use Rattle.filter_tree.specs.declared.arithmetic.Protocol.{Protocol as DataProtocol}
use Rattle.filter_tree.specs.declared.arithmetic.Protocol.TheVariants as data_is
use Rattle.filter_tree.specs.declared.primitive.Transport.{Transport}
use Rattle.filter_tree.specs.declared.primitive.Transport.TheVariants.{Tcp, Udp, Unnamed}
use Rattle.filter_tree.specs.declared.sides.Accesses.{Accesses}
use Rattle.filter_tree.specs.declared.truth.Truth.{Truth}
use Rattle.filter_tree.specs.declared.truth.Truth.TheVariants.{Yes}
use Rattle.filter_tree.specs.Outcome.{answer, tested}
use Rattle.filter_tree.specs.Primitive.{has_ports, is_first_fragment, is_ip, is_protocol}
use Rattle.filter_tree.specs.Truth.{guards, used_by}
use Rattle.filter_facts.specs.declared.header.Header.{Header}
use Rattle.filter_facts.specs.declared.header.Header.TheVariants as header_is
use Rattle.filter_facts.specs.declared.header.Protocol.{Protocol}
use Rattle.filter_facts.specs.declared.header.Protocol.TheVariants.{Any, Is, IsNot}
use Rattle.filter_facts.specs.declared.known.Known.{Known}
use Rattle.filter_facts.specs.Known.{HasPorts, Holds, IsFirst, IsHeader, IsProtocol, Knows, Settles}
use Rattle.filter_facts.specs.Told.{first_fragment_of, first_in, header_in_x_of, ip_of, ip_told, named_told, number_told, ports_in, ports_told, protocol_in, transport_of}

-- ---- what is settled

settles_ip : (header : Header) (packet : List ℕ) → IsHeader header packet → Settles (ip_told header) (is_ip packet)
settles_ip header_is.Any packet is = tt
settles_ip header_is.NotIpv4 packet is = is
settles_ip (header_is.Ipv4 protocol ports first) packet is = is.0

first_is : (header : Header) (packet : List ℕ) → IsHeader header packet → IsFirst (first_in header) packet
first_is header_is.Any packet is = tt
first_is header_is.NotIpv4 packet is = tt
first_is (header_is.Ipv4 protocol ports first) packet is = is.3

protocol_is : (header : Header) (packet : List ℕ) → IsHeader header packet → IsProtocol (protocol_in header) packet
protocol_is header_is.Any packet is = tt
protocol_is header_is.NotIpv4 packet is = tt
protocol_is (header_is.Ipv4 protocol ports first) packet is = is.1

settles_answer : (b : Bool) (truth : Truth) → truth ≡ answer b → Settles (Some b) truth
settles_answer true truth is = is
settles_answer false truth is = is

settles_number : (protocol : Protocol) (n : ℕ) (packet : List ℕ) → IsProtocol protocol packet → Settles (number_told protocol n) (is_protocol n packet)
settles_number Any n packet is = tt
settles_number (Is m) n packet is = settles_answer (m == n) (is_protocol n packet) (ap (tested (λ k. k == n)) is)
settles_number (IsNot m) n packet is =
    let P : Bool → Type 0 = λ b. Settles (if b then Some false else None) (is_protocol n packet) in
    ⊎_elim
    (λ (e : m ≡ n). let other : (is.0 == n) ≡ false = ne_eqb is.0 n (λ same. is.2 (same ∙ sym e)) in
    subst P (sym (eq-eqb m n e)) (ap (tested (λ k. k == n)) is.1 ∙ ap answer other))
    (λ ne. subst P (sym (ne_eqb m n ne)) tt)
    (cases_eq m n)

settles_ports : (protocol : Protocol) (ports : Bool) (packet : List ℕ) → IsProtocol protocol packet → HasPorts ports packet → Settles (ports_told protocol ports) (tested (has_ports Unnamed) (field_of field_is.Protocol packet))
settles_ports Any true packet is has = has
settles_ports Any false packet is has = tt
settles_ports (Is m) ports packet is has = settles_answer (has_ports Unnamed m) (tested (has_ports Unnamed) (field_of field_is.Protocol packet)) (ap (tested (has_ports Unnamed)) is)
settles_ports (IsNot m) true packet is has = has
settles_ports (IsNot m) false packet is has = tt

settles_header_ports : (header : Header) (packet : List ℕ) → IsHeader header packet → Settles (ports_in header) (tested (has_ports Unnamed) (field_of field_is.Protocol packet))
settles_header_ports header_is.Any packet is = tt
settles_header_ports header_is.NotIpv4 packet is = tt
settles_header_ports (header_is.Ipv4 protocol ports first) packet is = settles_ports protocol ports packet is.1 is.2

settles_named : (transport : Transport) (header : Header) (packet : List ℕ) → IsHeader header packet
    → Settles (named_told header transport) (tested (has_ports transport) (field_of field_is.Protocol packet))
settles_named Tcp header packet is = settles_number (protocol_in header) 6 packet (protocol_is header packet is)
settles_named Udp header packet is = settles_number (protocol_in header) 17 packet (protocol_is header packet is)
settles_named Unnamed header packet is = settles_header_ports header packet is

module _ (known : Known) (packet : List ℕ) (a x : ℕ) (holds : Holds known packet a x) where
  -- the truth of each test, as far as the facts tell it
  pub ip_settled : Settles (ip_of known) (is_ip packet)
  ip_settled = settles_ip known.header packet holds.0

  pub transport_settled : (transport : Transport) → Settles (transport_of known transport) (tested (has_ports transport) (field_of field_is.Protocol packet))
  transport_settled transport = settles_named transport known.header packet holds.0

  -- the same where the answer is known
  pub ip_yes : ip_of known ≡ Some true → is_ip packet ≡ Yes
  ip_yes told = subst (λ o. Settles o (is_ip packet)) told ip_settled

  pub transport_yes : (transport : Transport) → transport_of known transport ≡ Some true → tested (has_ports transport) (field_of field_is.Protocol packet) ≡ Yes
  transport_yes transport told = subst (λ o. Settles o (tested (has_ports transport) (field_of field_is.Protocol packet))) told (transport_settled transport)

  pub first_fragment_yes : first_fragment_of known ≡ true → is_first_fragment packet ≡ Yes
  first_fragment_yes told = subst (λ b. IsFirst b packet) told (first_is known.header packet holds.0)

  -- what is known of X
  pub x_known : Knows (header_in_x_of known) packet x
  x_known = holds.1

-- ---- protocol and fragment are told of packets of IPv4 alone

ip_by_number : (header : Header) (n : ℕ) (b : Bool) → number_told (protocol_in header) n ≡ Some b → ip_told header ≡ Some true
ip_by_number header_is.Any n b told = cc
ip_by_number header_is.NotIpv4 n b told = cc
ip_by_number (header_is.Ipv4 protocol ports first) n b told = refl

ip_by_ports : (header : Header) (b : Bool) → ports_in header ≡ Some b → ip_told header ≡ Some true
ip_by_ports header_is.Any b told = cc
ip_by_ports header_is.NotIpv4 b told = cc
ip_by_ports (header_is.Ipv4 protocol ports first) b told = refl

pub ip_by_transport : (known : Known) (transport : Transport) (b : Bool) → transport_of known transport ≡ Some b → ip_of known ≡ Some true
ip_by_transport known Tcp b told = ip_by_number known.header 6 b told
ip_by_transport known Udp b told = ip_by_number known.header 17 b told
ip_by_transport known Unnamed b told = ip_by_ports known.header b told

ip_by_first : (header : Header) → first_in header ≡ true → ip_told header ≡ Some true
ip_by_first header_is.Any told = cc
ip_by_first header_is.NotIpv4 told = cc
ip_by_first (header_is.Ipv4 protocol ports first) told = refl

pub ip_by_fragment : (known : Known) → first_fragment_of known ≡ true → ip_of known ≡ Some true
ip_by_fragment known told = ip_by_first known.header told

first_by_none : (header : Header) → ip_told header ≡ None → first_in header ≡ false
first_by_none header_is.Any told = refl
first_by_none header_is.NotIpv4 told = refl
first_by_none (header_is.Ipv4 protocol ports first) told = cc

pub first_fragment_unknown : (known : Known) → ip_of known ≡ None → first_fragment_of known ≡ false
first_fragment_unknown known told = first_by_none known.header told

-- ---- the guards of what accessors read, by each of the four

pub guards-used_by : (used : Accesses) (other : DataProtocol → Bool) → used.ip ≡ other data_is.Ip → used.tcp ≡ other data_is.Tcp → used.udp ≡ other data_is.Udp → used.icmp ≡ other data_is.Icmp
    → (packet : List ℕ) → guards (used_by used) packet ≡ guards other packet
guards-used_by used other ip tcp udp icmp packet = cc
