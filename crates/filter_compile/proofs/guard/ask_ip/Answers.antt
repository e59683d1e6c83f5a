use Rattle.filter_tree.specs.Primitive.{is_ip}
use Rattle.filter_compile.proofs.GuardLemmas.{Adds-asked}
use Rattle.std.proofs.Common.{None, ap, ◌∙◌}
use Rattle.filter_facts.specs.Told.{ip_of, ip_told, named_told, transport_of}
use Rattle.filter_compile.proofs.guard.ask_ip.Goals as goal

pub returns : goal.returns
returns g c = record {
  adds = Adds-asked c.args.passed.now c.learn.new.self c.with_in_a-asked.result c.with_ip.result c.without_ip.result None None is_ip 5 c.learn.ensures.on c.learn.ensures.of_self c.learn.ensures.of_no (λ packet a x h. tt) c.with_in_a-asked.ensures.holds c.with_ip.ensures.holds c.without_ip.ensures.holds c.in_ok-pass_ip.ensures.guards;
  learned = λ unknown. ap ip_of c.learn.ensures.on ∙ c.with_ip.ensures.learned (ap ip_told c.with_in_a-asked.ensures.same_packet ∙ unknown);
  same_transport = λ transport. ap (λ k. transport_of k transport) c.learn.ensures.on ∙ (c.with_ip.ensures.same_transport transport ∙ ap (λ h. named_told h transport) c.with_in_a-asked.ensures.same_packet);
}
