use Rattle.std.proofs.Common.{None, ap, ◌∙◌}
use Rattle.filter_tree.specs.Primitive.{is_first_fragment}
use Rattle.filter_facts.specs.Told.{first_fragment_of, ip_told, named_told, transport_of}
use Rattle.filter_compile.proofs.GuardLemmas.{Adds-asked}
use Rattle.filter_compile.proofs.guard.ask_first_fragment.Goals as goal

pub returns : goal.returns
returns g c = record {
  adds = Adds-asked c.args.passed.now c.learn.new.self c.with_in_a-asked.result c.with_first_fragment.result c.with_in_a-asked.result None None is_first_fragment 4 c.learn.ensures.on c.learn.ensures.of_self c.learn.ensures.of_no (λ packet a x h. tt) c.with_in_a-asked.ensures.holds c.with_first_fragment.ensures.holds (λ packet a x h is. h) c.in_ok-pass_first_fragment.ensures.guards;
  learned = λ ip. ap first_fragment_of c.learn.ensures.on ∙ c.with_first_fragment.ensures.learned (ap ip_told c.with_in_a-asked.ensures.same_packet ∙ ip);
  same_transport = λ transport. ap (λ k. transport_of k transport) c.learn.ensures.on ∙ (c.with_first_fragment.ensures.same_transport transport ∙ ap (λ h. named_told h transport) c.with_in_a-asked.ensures.same_packet);
}
