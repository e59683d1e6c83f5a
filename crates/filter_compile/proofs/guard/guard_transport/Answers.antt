use Rattle.std.proofs.Common.{◌∙◌, Some, ap, refl, sym}
use Rattle.ipv4_fields.specs.declared.header.Field.TheVariants.{Protocol}
use Rattle.ipv4_fields.specs.Field.{field_of}
use Rattle.filter_tree.specs.Outcome.{tested}
use Rattle.filter_tree.specs.Primitive.{has_ports}
use Rattle.filter_facts.specs.declared.load.Loaded.TheVariants.{Protocol as LoadedProtocol}
use Rattle.filter_facts.specs.Told.{ip_told, named_told, transport_of}
use Rattle.filter_compile.specs.body.Header.{weight_of_transport}
use Rattle.filter_compile.proofs.GuardLemmas.{Adds-asked, Adds-none, unknown}
use Rattle.filter_compile.proofs.guard.guard_transport.Goals as goal

pub returns-then-not-must_ask : goal.returns-then-not-must_ask
returns-then-not-must_ask g c = record {
  adds = Adds-none c.args.passed.now (λ packet. tested (has_ports c.args.transport) (field_of Protocol packet)) _ c.args.code.now c.args.no.now
      (λ packet a x h. c.must_ask.ensures.left_out c.if-not-must_ask.true (tested (has_ports c.args.transport) (field_of Protocol packet)) (c.transport.ensures.known packet a x h));
  learned = λ ip not_no. sym c.transport.ensures.exact ∙ c.must_ask.ensures.known c.if-not-must_ask.true refl;
}

pub returns : goal.returns
returns g c = record {
  adds = Adds-asked c.args.passed.now c.learn.new.self c.with_in_a-asked.result c.with_transport.result c.without_transport.result c.in_a.result (Some LoadedProtocol) (λ packet. tested (has_ports c.args.transport) (field_of Protocol packet)) (weight_of_transport c.args.transport)
      c.learn.ensures.on c.learn.ensures.of_self c.learn.ensures.of_no c.in_a.ensures.known c.with_in_a-asked.ensures.holds c.with_transport.ensures.holds c.without_transport.ensures.holds c.in_ok-pass_ports.ensures.guards;
  learned = λ ip not_no. let same = c.with_in_a-asked.ensures.same_packet in ap (λ k. transport_of k c.args.transport) c.learn.ensures.on
      ∙ c.with_transport.ensures.learned (ap ip_told same ∙ ip)
      (ap (λ h. named_told h c.args.transport) same ∙ unknown c.transport.result (transport_of c.args.passed.now.on c.args.transport) c.transport.ensures.exact (c.must_ask.ensures.asked c.if-not-must_ask.false) not_no);
}
