use Rattle.filter_tree.specs.Outcome.{where_so}
use Rattle.filter_tree.specs.Primitive.{is_protocol}
use Rattle.filter_compile.proofs.GuardLemmas.{Adds-none, unused}
use Rattle.filter_compile.proofs.guard.guard_protocol.Goals as goal

pub returns-then-not-used : goal.returns-then-not-used
returns-then-not-used g c = record {
  adds = Adds-none c.args.passed.now (λ packet. where_so c.args.used ((is_protocol c.args.n) packet)) _ c.args.code.now c.args.no.now (λ packet a x h. unused c.args.used ((is_protocol c.args.n) packet) c.if-not-used.true);
}

pub returns-then-not-must_ask : goal.returns-then-not-must_ask
returns-then-not-must_ask g c = record {
  adds = Adds-none c.args.passed.now (λ packet. where_so c.args.used ((is_protocol c.args.n) packet)) _ c.args.code.now c.args.no.now
      (λ packet a x h. c.must_ask.ensures.left_out c.if-not-must_ask.true ((is_protocol c.args.n) packet) (c.protocol.ensures.known packet a x h));
}

pub returns : goal.returns
returns g c = record { adds = rw (c.must_ask.ensures.used c.if-not-must_ask.false) c.ask_protocol.ensures.adds }
