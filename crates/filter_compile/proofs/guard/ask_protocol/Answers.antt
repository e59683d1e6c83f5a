use Rattle.std.proofs.Common.{Some}
use Rattle.filter_tree.specs.Primitive.{is_protocol}
use Rattle.filter_facts.specs.declared.load.Loaded.TheVariants.{Protocol}
use Rattle.filter_compile.proofs.GuardLemmas.{Adds-asked}
use Rattle.filter_compile.proofs.guard.ask_protocol.Goals as goal

pub returns : goal.returns
returns g c = record {
  adds = Adds-asked c.args.passed.now c.learn.new.self c.with_in_a-asked.result c.with_protocol.result c.without_protocol.result c.in_a.result (Some Protocol) (is_protocol c.args.n) 4 c.learn.ensures.on c.learn.ensures.of_self c.learn.ensures.of_no c.in_a.ensures.known c.with_in_a-asked.ensures.holds c.with_protocol.ensures.holds c.without_protocol.ensures.holds c.in_ok-pass_protocol.ensures.guards;
}
