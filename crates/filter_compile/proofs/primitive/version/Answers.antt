use Rattle.std.proofs.Common.{None, arith}
use Rattle.std.proofs.lemmas.Result.{IfOk-weaker}
use Rattle.filter_tree.specs.Primitive.{is_ip}
use Rattle.filter_compile.proofs.GuardLemmas.{Writes-decided, Writes-yes}
use Rattle.filter_compile.proofs.primitive.version.Goals as goal

pub returns-then-not-must_ask : goal.returns-then-not-must_ask
returns-then-not-must_ask g c = record {
  writes = IfOk-weaker c.settled.result _ _
      (λ sides branches_always. Writes-yes c.args.known sides is_ip 5 c.args.no.now (omega arith) (λ packet a x h. c.must_ask.ensures.left_out c.if-not-must_ask.true (is_ip packet) (c.ip.ensures.known packet a x h)) branches_always) c.settled.ensures.branches_always;
}

pub returns : goal.returns
returns g c = record { writes = Writes-decided c.args.known c.with_in_a-asked.result c.with_ip.result c.without_ip.result None None is_ip (λ packet a x h. tt) c.with_in_a-asked.ensures.holds c.with_ip.ensures.holds c.without_ip.ensures.holds c.in_ok-is_ip.ensures.writes }
