use Rattle.std.proofs.Common.{Some, arith}
use Rattle.std.proofs.lemmas.Result.{IfOk-weaker}
use Rattle.filter_tree.specs.Primitive.{is_protocol}
use Rattle.filter_facts.specs.declared.load.Loaded.TheVariants.{Protocol}
use Rattle.filter_compile.proofs.GuardLemmas.{Writes-decided, Writes-yes}
use Rattle.filter_compile.proofs.primitive.protocol.Goals as goal

pub returns-then-not-must_ask : goal.returns-then-not-must_ask
returns-then-not-must_ask g c = record {
  writes = IfOk-weaker c.settled.result _ _
      (λ sides branches_always. Writes-yes c.args.known sides (is_protocol c.args.n) 4 c.args.no.now (omega arith) (λ packet a x h. c.must_ask.ensures.left_out c.if-not-must_ask.true (is_protocol c.args.n packet) (c.protocol.ensures.known packet a x h)) branches_always) c.settled.ensures.branches_always;
}

pub returns : goal.returns
returns g c = record {
  writes = Writes-decided c.args.known c.with_in_a-asked.result c.with_protocol.result c.without_protocol.result c.in_a.result (Some Protocol) (is_protocol c.args.n) c.in_a.ensures.known c.with_in_a-asked.ensures.holds c.with_protocol.ensures.holds c.without_protocol.ensures.holds c.in_ok-is_protocol.ensures.writes;
}
