use Rattle.std.proofs.Common.{◌∙◌, arith, refl, sym, true}
use Rattle.ipv4_fields.specs.declared.header.Field.TheVariants.{Protocol}
use Rattle.ipv4_fields.specs.Field.{field_of}
use Rattle.filter_tree.specs.Outcome.{◌and_then◌, tested}
use Rattle.filter_tree.specs.Primitive.{has_ports, is_first_fragment, is_ip}
use Rattle.filter_facts.proofs.FactLemmas.{ip_by_transport}
use Rattle.filter_compile.specs.body.Weight.{ports_weight_under}
use Rattle.filter_compile.proofs.GuardLemmas.{Adds-both, Adds-none, Adds-weight, leads, led_truth}
use Rattle.filter_compile.proofs.WeightLemmas.{ports_weight-asked}
use Rattle.filter_compile.proofs.primitive.guard_ports.Goals as goal

pub returns-then-leads_to_ports : goal.returns-then-leads_to_ports
returns-then-leads_to_ports g c = record {
  adds = Adds-none c.args.passed.now (λ packet. is_ip packet and_then tested (has_ports c.args.transport) (field_of Protocol packet) and_then is_first_fragment packet) _ c.args.code.now c.args.no.now (led_truth c.args.passed.now.on c.args.transport (sym c.if-leads_to_ports.ensures));
  learned = λ ip transport. sym c.if-leads_to_ports.ensures;
}

pub returns : goal.returns
returns g c =
    let known = c.args.passed.now.on in let protocol = c.guard_transport.new.passed in let first = c.guard_first_fragment.new.passed in let transport = c.args.transport in
    let whole = ports_weight-asked known transport (sym c.if-leads_to_ports.ensures) in record {
      adds = Adds-weight (ports_weight_under known transport) (omega arith) (Adds-both (Adds-both c.in_ok-guard_ip.ensures.adds c.in_ok-guard_transport.ensures.adds) c.in_ok-guard_first_fragment.ensures.adds);
      learned = λ not_no may_pass.
          let is_ipv4 = c.in_ok-guard_ip.ensures.learned refl not_no in
          let passes = c.in_ok-guard_transport.ensures.learned is_ipv4 (λ is. may_pass (sym (c.in_ok-guard_ip.ensures.same_transport transport) ∙ is)) in
          let is_first = c.in_ok-guard_first_fragment.ensures.learned refl (ip_by_transport protocol.on transport true passes) in
          leads first.on transport is_first (c.in_ok-guard_first_fragment.ensures.same_transport transport ∙ passes);
    }
