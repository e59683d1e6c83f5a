-- A packet breaks a rule exactly if it is not dispatched.
use Rattle.std.proofs.Common.{◌≡◌, ◌==◌, ◌<◌, ◌≤◌, ◌∷◌, ◌↔◌, Bool, List, None, Option, Some, [], ap, arith, cond, false, get_or, is_some, length, min, nat_eq, nat_le, option_map, refl, sym, true, ℕ}
use Rattle.std.specs.Prelude.{IsNone, IsSome}
use Rattle.std.proofs.lemmas.Bool.{eq-eqb, le-leb, lt-leb, ne_eqb}
use Rattle.config_image.specs.Image.{Group}
use Rattle.bpf_verify.specs.Program.{ProgramValue}
use Rattle.ipv4_fields.specs.declared.endpoint.Endpoint.{Endpoint}
use Rattle.ipv4_fields.specs.declared.endpoint.Flow.{Flow}
use Rattle.ipv4_fields.specs.declared.header.Field.TheVariants.{Ihl, Protocol, Version}
use Rattle.ipv4_fields.specs.Dispatchable.{IsDispatchable, field_value, flow_of}
use Rattle.ipv4_fields.proofs.FlowLemmas.{flow_exact}
use Rattle.member_group.specs.declared.member.Member.{Member}
use Rattle.member_group.specs.Group.{group_of}
use Rattle.packet_verdict.specs.declared.malformed.Malformation.{Malformation}
use Rattle.packet_verdict.specs.declared.malformed.Malformation.TheVariants as broken
use Rattle.packet_verdict.specs.declared.verdict.Verdict.TheVariants.{Deliver, Dropped, Malformed}
use Rattle.packet_verdict.specs.Malformed.{is_no_fragment, lengths_fit, malformation_of, rule, udp_length_fits}
use Rattle.packet_verdict.specs.Verdict.{choice, flow_verdict, group_verdict, kept, member_verdict, members_verdict, value_of, verdict}

rule_kept : (test : Bool) (name : Malformation) (others : Option Malformation) → rule test name others ≡ None → (test ≡ true) × (others ≡ None)
rule_kept true name others is = (refl, is)
rule_kept false name others is = absurd (cc)

module _ (a b c d e f g : Bool) where
  abbrev first_broken : Option Malformation
  first_broken = rule a broken.Short (rule b broken.Version (rule c broken.Header (rule d broken.Length (rule e broken.Protocol (rule f broken.Fragment (rule g broken.UdpLength None))))))

  all_kept : a ≡ true → b ≡ true → c ≡ true → d ≡ true → e ≡ true → f ≡ true → g ≡ true → first_broken ≡ None
  all_kept a_is b_is c_is d_is e_is f_is g_is = rw (a_is, b_is, c_is, d_is, e_is, f_is, g_is) refl

  each_kept : first_broken ≡ None → (a ≡ true) × (b ≡ true) × (c ≡ true) × (d ≡ true) × (e ≡ true) × (f ≡ true) × (g ≡ true)
  each_kept is =
      let at_b = rule_kept a broken.Short _ is in
      let at_c = rule_kept b broken.Version _ at_b.1 in
      let at_d = rule_kept c broken.Header _ at_c.1 in
      let at_e = rule_kept d broken.Length _ at_d.1 in
      let at_f = rule_kept e broken.Protocol _ at_e.1 in
      let at_g = rule_kept f broken.Fragment _ at_f.1 in
      (at_b.0, at_c.0, at_d.0, at_e.0, at_f.0, at_g.0, (rule_kept g broken.UdpLength None at_g.1).0)

module _ (packet : List ℕ) where
  abbrev is_long : Bool
  is_long = nat_le 20 (length packet)

  abbrev is_version : Bool
  is_version = field_value Version packet == 4

  abbrev has_words : Bool
  has_words = nat_le 5 (field_value Ihl packet)

  abbrev is_udp : Bool
  is_udp = field_value Protocol packet == 17

  whole_breaks_none : IsDispatchable packet → malformation_of packet ≡ None
  unfolding malformation_of lengths_fit is_no_fragment udp_length_fits
  whole_breaks_none d =
      all_kept is_long is_version has_words (lengths_fit packet) is_udp (is_no_fragment packet) (udp_length_fits packet)
      (grind (arith, d.has_header)) (grind (arith, d.version)) (grind (arith, d.ihl)) (grind (arith, d.whole, d.has_udp_header)) (grind (arith, d.protocol))
      (grind (arith, d.last_fragment, d.first_fragment)) (grind (arith, d.udp_length_least, d.udp_length_most))

  none_is_whole : malformation_of packet ≡ None → IsDispatchable packet
  unfolding malformation_of lengths_fit is_no_fragment udp_length_fits
  none_is_whole is =
      let (long, version, ihl, lengths, protocol, fragments, udp_length) =
      each_kept is_long is_version has_words (lengths_fit packet) is_udp (is_no_fragment packet) (udp_length_fits packet) is in
      record {
        has_header = grind (arith, long);
        version = grind (arith, version);
        ihl = grind (arith, ihl);
        whole = grind (arith, lengths);
        has_udp_header = grind (arith, lengths);
        last_fragment = grind (arith, fragments);
        first_fragment = grind (arith, fragments);
        protocol = grind (arith, protocol);
        udp_length_least = grind (arith, udp_length);
        udp_length_most = grind (arith, udp_length);
      }

  -- ---- the first broken rule, where the rules before it hold

  pub at_short : length packet < 20 → Some broken.Short ≡ malformation_of packet
  unfolding malformation_of
  at_short short = rw (lt-leb 20 (length packet) short) refl

  module _ (long : 20 ≤ length packet) where
    pub at_version : (field_value Version packet ≡ 4 → ⊥) → Some broken.Version ≡ malformation_of packet
    unfolding malformation_of
    at_version other = rw (le-leb 20 (length packet) long, ne_eqb (field_value Version packet) 4 other) refl

    module _ (four : field_value Version packet ≡ 4) where
      pub at_header : field_value Ihl packet < 5 → Some broken.Header ≡ malformation_of packet
      unfolding malformation_of
      at_header few = rw (le-leb 20 (length packet) long, eq-eqb (field_value Version packet) 4 four, lt-leb 5 (field_value Ihl packet) few) refl

      module _ (words : 5 ≤ field_value Ihl packet) where
        pub at_length : lengths_fit packet ≡ false → Some broken.Length ≡ malformation_of packet
        unfolding malformation_of
        at_length none = rw (le-leb 20 (length packet) long, eq-eqb (field_value Version packet) 4 four, le-leb 5 (field_value Ihl packet) words, none) refl

        module _ (fit : lengths_fit packet ≡ true) where
          pub at_protocol : (field_value Protocol packet ≡ 17 → ⊥) → Some broken.Protocol ≡ malformation_of packet
          unfolding malformation_of
          at_protocol other =
              rw (le-leb 20 (length packet) long, eq-eqb (field_value Version packet) 4 four, le-leb 5 (field_value Ihl packet) words, fit, ne_eqb (field_value Protocol packet) 17 other) refl

          module _ (udp : field_value Protocol packet ≡ 17) where
            pub at_fragment : is_no_fragment packet ≡ false → Some broken.Fragment ≡ malformation_of packet
            unfolding malformation_of
            at_fragment some =
                rw (le-leb 20 (length packet) long, eq-eqb (field_value Version packet) 4 four, le-leb 5 (field_value Ihl packet) words, fit, eq-eqb (field_value Protocol packet) 17 udp, some) refl

            module _ (whole : is_no_fragment packet ≡ true) where
              pub at_udp_length : udp_length_fits packet ≡ false → Some broken.UdpLength ≡ malformation_of packet
              unfolding malformation_of
              at_udp_length none =
                  rw (le-leb 20 (length packet) long, eq-eqb (field_value Version packet) 4 four, le-leb 5 (field_value Ihl packet) words, fit, eq-eqb (field_value Protocol packet) 17 udp, whole, none) refl

              pub at_none : udp_length_fits packet ≡ true → None ≡ malformation_of packet
              unfolding malformation_of
              at_none fits =
                  rw (le-leb 20 (length packet) long, eq-eqb (field_value Version packet) 4 four, le-leb 5 (field_value Ihl packet) words, fit, eq-eqb (field_value Protocol packet) 17 udp, whole, fits) refl

is_none : {A : Type 0} (o : Option A) → IsNone o → o ≡ None
is_none None none = refl
is_none (Some x) none = absurd (cc)

pub breaks_none : (packet : List ℕ) → IsNone (malformation_of packet) ↔ IsDispatchable packet
breaks_none packet = (λ none. none_is_whole packet (is_none (malformation_of packet) none), λ d. ap (λ (o : Option Malformation). is_some o) (whole_breaks_none packet d))

-- ---- verdicts

test_delivers : (test : Bool) (key : Endpoint) (id : ℕ) (to : Endpoint) (bytes : ℕ) → cond test (Dropped key id) (Deliver key id to bytes) ≡ Malformed → ⊥
test_delivers true key id to bytes is = cc
test_delivers false key id to bytes is = cc

kept_is_whole : (key : Endpoint) (id : ℕ) (to : Endpoint) (answer : Option ℕ) (bytes : ℕ) → kept key id to answer bytes ≡ Malformed → ⊥
kept_is_whole key id to None bytes is = cc
kept_is_whole key id to (Some answer) bytes is = test_delivers (nat_eq answer 0) key id to (min answer bytes) is

module _ (packet : List ℕ) where
  member_is_whole : (key : Endpoint) (member : Member ProgramValue) → member_verdict value_of key packet member ≡ Malformed → ⊥
  member_is_whole key member is = kept_is_whole key member.id member.to (option_map (λ filter. value_of filter packet) member.filter) (length packet) is

  members_are_whole : (flow : Flow) (selector : Option ProgramValue) (members : List (Member ProgramValue)) → members_verdict value_of flow packet selector members ≡ Malformed → ⊥
  members_are_whole flow selector [] is = cc
  members_are_whole flow selector (first ∷ rest) is =
      member_is_whole flow.destination (get_or (first ∷ rest) (choice (option_map (λ program. value_of program packet) selector) flow (length (first ∷ rest))) first) is

  group_is_whole : (flow : Flow) (group : Option Group) → group_verdict value_of flow packet group ≡ Malformed → ⊥
  group_is_whole flow None is = cc
  group_is_whole flow (Some group) is = members_are_whole flow group.selector group.members is

  module _ (config : List Group) where
    no_flow_breaks_one : IsNone (flow_of packet) → IsSome (malformation_of packet)
    no_flow_breaks_one none = unless_none (malformation_of packet) (λ is. let whole = (flow_exact packet).1 (none_is_whole packet is) in cc)
      where
        unless_none : (o : Option Malformation) → (o ≡ None → ⊥) → IsSome o
        unless_none None not = absurd (not refl)
        unless_none (Some why) not = refl

    by_flow : (flow : Option Flow) → flow ≡ flow_of packet → (flow_verdict value_of config packet flow ≡ Malformed) ↔ IsSome (malformation_of packet)
    by_flow None is = (λ same. no_flow_breaks_one (ap (λ (f : Option Flow). is_some f) (sym is)), λ some. refl)
    by_flow (Some flow) is =
        let none = whole_breaks_none packet ((flow_exact packet).0 (ap (λ (f : Option Flow). is_some f) (sym is))) in
        (λ same. absurd (group_is_whole flow (group_of flow.destination config) same), λ some. let none_too = ap (λ (o : Option Malformation). is_some o) none in absurd (cc))

pub breaks_one : (config : List Group) (packet : List ℕ) → (verdict value_of config packet ≡ Malformed) ↔ IsSome (malformation_of packet)
breaks_one config packet = by_flow packet config (flow_of packet) refl
