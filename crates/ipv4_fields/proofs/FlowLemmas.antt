-- When a packet has a flow, and what it is.
use Rattle.std.proofs.Common.{◌≡◌, cond, ◌↔◌, Bool, true, false, IfSome, IsSome, List, None, Option, Some, arith, refl, sym, ℕ}
use Rattle.ipv4_fields.specs.declared.endpoint.Flow.{Flow}
use Rattle.ipv4_fields.specs.Field.{behind_header, field_of, number_at}
use Rattle.ipv4_fields.specs.Dispatchable.{IsDispatchable, IsFlowOf, ends_of, flow_of, is_dispatchable}
use Rattle.ipv4_fields.proofs.FieldLemmas.{header_field, port_field, some_value}

test_holds : (packet : List ℕ) → IsDispatchable packet → is_dispatchable packet ≡ true
unfolding is_dispatchable
test_holds packet d =
    grind (arith, d.has_header, d.version, d.ihl, d.whole, d.has_udp_header, d.last_fragment, d.first_fragment, d.protocol, d.udp_length_least, d.udp_length_most)

test_tells : (packet : List ℕ) → is_dispatchable packet ≡ true → IsDispatchable packet
unfolding is_dispatchable
test_tells packet e = record {
  has_header = grind arith;
  version = grind arith;
  ihl = grind arith;
  whole = grind arith;
  has_udp_header = grind arith;
  last_fragment = grind arith;
  first_fragment = grind arith;
  protocol = grind arith;
  udp_length_least = grind arith;
  udp_length_most = grind arith;
}

flow-cases : (b : Bool) (flow : Flow) → b ≡ false → ◌≡◌ {A = Option Flow} None (cond b (Some flow) None)
flow-cases true flow e = cc
flow-cases false flow e = refl

not_true : (b : Bool) → (¬ (b ≡ true)) → b ≡ false
not_true true h = absurd (h refl)
not_true false h = refl

pub no_flow : (packet : List ℕ) → (¬ IsDispatchable packet) → ◌≡◌ {A = Option Flow} None (flow_of packet)
no_flow packet h = flow-cases (is_dispatchable packet) (ends_of packet) (not_true (is_dispatchable packet) (λ e. h (test_tells packet e)))

pub has_flow : (packet : List ℕ) → IsDispatchable packet → ◌≡◌ {A = Option Flow} (Some (ends_of packet)) (flow_of packet)
has_flow packet d = rw (test_holds packet d) refl

exact-cases : (packet : List ℕ) (b : Bool) → b ≡ is_dispatchable packet → IsSome (cond b (Some (ends_of packet)) None) ↔ IsDispatchable packet
exact-cases packet true e = (λ some. test_tells packet (sym e), λ d. refl)
exact-cases packet false e = (λ none. cc, λ d. let h = test_holds packet d in cc)

pub flow_exact : (packet : List ℕ) → IsSome (flow_of packet) ↔ IsDispatchable packet
flow_exact packet = exact-cases packet (is_dispatchable packet) refl

ends_are_there : (packet : List ℕ) → IsDispatchable packet → IsFlowOf packet (ends_of packet)
unfolding field_of
ends_are_there packet d = record {
  source_address = some_value (number_at 4 packet 12) (header_field 4 12 packet d.has_header (omega arith));
  destination_address = some_value (number_at 4 packet 16) (header_field 4 16 packet d.has_header (omega arith));
  source_port = some_value (behind_header packet 0) (port_field packet 0 d (omega arith));
  destination_port = some_value (behind_header packet 2) (port_field packet 2 d (omega arith));
}

ends-cases : (packet : List ℕ) (b : Bool) → b ≡ is_dispatchable packet → IfSome (cond b (Some (ends_of packet)) None) (IsFlowOf packet)
ends-cases packet true e = ends_are_there packet (test_tells packet (sym e))
ends-cases packet false e = tt

pub ends : (packet : List ℕ) → IfSome (flow_of packet) (IsFlowOf packet)
ends packet = ends-cases packet (is_dispatchable packet) refl
