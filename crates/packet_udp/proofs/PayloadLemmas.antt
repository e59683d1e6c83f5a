-- Which packets have a payload, and that a packet of UDP is dispatched and opened again.
use Rattle.std.proofs.Common.{◌≡◌, ◌≢◌, ◌∙◌, ◌+◌, ◌-◌, ◌*◌, ◌&&◌, Bool, List, None, Option, Some, ap, ap₂, arith, cond, drop, eqb, false, inl, inr, length, refl, sym, take, true, unwrap_or, ℕ}
use Rattle.std.specs.Prelude.{option_map}
use Rattle.std.proofs.Math.Seq.{take-length}
use Rattle.std.proofs.lemmas.Bool.Decides.{eqb_tells}
use Rattle.ipv4_fields.specs.Dispatchable.{IsDispatchable, ends_of, field_value, flow_of, header_length, is_dispatchable}
use Rattle.ipv4_fields.specs.Field.{bits_from, field_of}
use Rattle.ipv4_fields.specs.declared.endpoint.Endpoint.{Endpoint}
use Rattle.ipv4_fields.specs.declared.endpoint.Flow.{Flow}
use Rattle.ipv4_fields.specs.declared.header.Field.{Field}
use Rattle.ipv4_fields.specs.declared.header.Field.TheVariants.{Destination, DestinationPort, FragmentOffset, Ihl, MoreFragments, Protocol, Source, SourcePort, TotalLength, UdpLength, Version}
use Rattle.ipv4_fields.proofs.FlowLemmas.{has_flow}
use Rattle.packet_udp.specs.Packet.{IsUdpPacket}
use Rattle.packet_udp.specs.Payload.{payload_of, payload_to}

-- ---- which packets have a payload

eqb-same : (a b : ℕ) → a ≡ b → eqb a b ≡ true
eqb-same a b same = elim (eqb_tells a b) [ inl same_number ↦ same_number.0 | inr apart ↦ absurd (apart.1 same) ]

eqb-other : (a b : ℕ) → a ≢ b → eqb a b ≡ false
eqb-other a b other = elim (eqb_tells a b) [ inl same_number ↦ absurd (other same_number.1) | inr apart ↦ apart.0 ]

module _ (port : ℕ) (packet : List ℕ) where
  pub undispatched : flow_of packet ≡ None → payload_to port packet ≡ None
  undispatched none = go (is_dispatchable packet) none
    where
      go : (b : Bool) → cond b (Some (ends_of packet)) None ≡ None → cond (b && eqb (field_value DestinationPort packet) port) (Some (payload_of packet)) None ≡ None
      go true e = cc
      go false e = refl

  pub of_another_port : (flow : Flow) → flow_of packet ≡ Some flow → flow.destination.port ≢ port → payload_to port packet ≡ None
  of_another_port flow found other = go (is_dispatchable packet) found
    where
      go : (b : Bool) → cond b (Some (ends_of packet)) None ≡ Some flow → cond (b && eqb (field_value DestinationPort packet) port) (Some (payload_of packet)) None ≡ None
      go true e =
          let ends : ends_of packet ≡ flow = cc in
          let same : field_value DestinationPort packet ≡ flow.destination.port = ap (λ (f : Flow). f.destination.port) ends in
          rw (eqb-other (field_value DestinationPort packet) port (λ is. other (sym same ∙ is))) refl
      go false e = refl

  pub of_this_port : (flow : Flow) → flow_of packet ≡ Some flow → flow.destination.port ≡ port → payload_to port packet ≡ Some (payload_of packet)
  of_this_port flow found same = go (is_dispatchable packet) found
    where
      go : (b : Bool) → cond b (Some (ends_of packet)) None ≡ Some flow
          → cond (b && eqb (field_value DestinationPort packet) port) (Some (payload_of packet)) None ≡ Some (payload_of packet)
      go true e =
          let ends : ends_of packet ≡ flow = cc in
          let is : field_value DestinationPort packet ≡ flow.destination.port = ap (λ (f : Flow). f.destination.port) ends in
          rw (eqb-same (field_value DestinationPort packet) port (is ∙ same)) refl
      go false e = cc

-- the slice that has the payload
pub payload_slice : (packet : List ℕ) (ihl udp_length : ℕ) → field_of Ihl packet ≡ Some ihl → field_of UdpLength packet ≡ Some udp_length
    → take (4 * ihl + udp_length - (4 * ihl + 8)) (drop (4 * ihl + 8) packet) ≡ payload_of packet
payload_slice packet ihl udp_length words len =
    let ihl_is : ihl ≡ field_value Ihl packet = sym (ap (λ (f : Option ℕ). unwrap_or f 0) words) in
    let length_is : udp_length ≡ field_value UdpLength packet = sym (ap (λ (f : Option ℕ). unwrap_or f 0) len) in
    ap₂ (λ (n k : ℕ). take n (drop k packet)) (omega (arith, length_is)) (omega (arith, ihl_is))

-- ---- a packet of UDP

abbrev endpoint_at : ℕ → ℕ → Endpoint
endpoint_at address port = record { address = address; port = port }

abbrev flow_between : Endpoint → Endpoint → Flow
flow_between from to = record { source = from; destination = to }

module _ (from to : Endpoint) (payload packet : List ℕ) (is : IsUdpPacket from to payload packet) where
  value : (name : Field) (n : ℕ) → field_of name packet ≡ Some n → field_value name packet ≡ n
  value name n same = ap (λ (f : Option ℕ). unwrap_or f 0) same

  more_fragments : field_of MoreFragments packet ≡ Some 0
  unfolding field_of
  more_fragments = ap (λ (byte : Option ℕ). option_map (bits_from 5 1) byte) is.flags

  dispatched : IsDispatchable packet
  dispatched =
      let ihl = value Ihl 5 is.ihl in
      let total = value TotalLength (28 + length payload) is.total_length in
      let udp_length = value UdpLength (8 + length payload) is.udp_length in
      let whole = is.whole in
      record {
        has_header = omega arith;
        version = value Version 4 is.version;
        ihl = omega arith;
        whole = omega arith;
        has_udp_header = omega arith;
        last_fragment = value MoreFragments 0 more_fragments;
        first_fragment = value FragmentOffset 0 is.fragment_offset;
        protocol = value Protocol 17 is.protocol;
        udp_length_least = omega arith;
        udp_length_most = omega arith;
      }

  pub flow_is : flow_of packet ≡ Some (record { source = from; destination = to })
  flow_is =
      sym (has_flow packet dispatched)
      ∙ ap₂ (λ (source destination : Endpoint). Some (flow_between source destination))
      (ap₂ endpoint_at (value Source from.address is.source) (value SourcePort from.port is.source_port))
      (ap₂ endpoint_at (value Destination to.address is.destination) (value DestinationPort to.port is.destination_port))

  pub opened : payload_to to.port packet ≡ Some payload
  opened =
      let ihl = value Ihl 5 is.ihl in
      let udp_length = value UdpLength (8 + length payload) is.udp_length in
      let from_place : header_length packet + 8 ≡ 28 = omega arith in
      let many : field_value UdpLength packet - 8 ≡ length payload = omega arith in
      let bytes : payload_of packet ≡ payload =
      ap₂ (λ (n k : ℕ). take n (drop k packet)) many from_place ∙ ap (λ (rest : List ℕ). take (length payload) rest) is.payload_is ∙ take-length payload in
      of_this_port to.port packet (record { source = from; destination = to }) flow_is refl ∙ ap (λ (b : List ℕ). Some b) bytes
