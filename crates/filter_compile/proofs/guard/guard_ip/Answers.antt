use Rattle.std.proofs.Common.{◌∙◌, refl, sym}
use Rattle.std.proofs.lemmas.Result.{on_ok_weaker}
use Rattle.filter_tree.specs.Outcome.{where_so}
use Rattle.filter_tree.specs.Primitive.{is_ip}
use Rattle.filter_facts.specs.Told.{ip_of}
use Rattle.filter_compile.proofs.GuardLemmas.{Adds-none, unknown}
use Rattle.filter_compile.proofs.WeightLemmas.{version_weight-asked}
use Rattle.filter_compile.proofs.guard.guard_ip.Goals as goal

pub returns-then-not-must_ask : goal.returns-then-not-must_ask
returns-then-not-must_ask g c = record {
  adds = Adds-none c.args.passed.now (λ packet. where_so c.args.used (is_ip packet)) _ c.args.code.now c.args.no.now (λ packet a x h. c.must_ask.ensures.left_out c.if-not-must_ask.true (is_ip packet) (c.ip.ensures.known packet a x h));
  learned = λ used not_no. sym c.ip.ensures.exact ∙ c.must_ask.ensures.known c.if-not-must_ask.true used;
  same_transport = λ transport. refl;
}

pub returns : goal.returns
returns g c =
    let whole = version_weight-asked c.args.passed.now.on c.ip.result c.ip.ensures.exact (c.must_ask.ensures.asked c.if-not-must_ask.false) in record {
      adds = rw (whole, c.must_ask.ensures.used c.if-not-must_ask.false) c.ask_ip.ensures.adds;
      learned = on_ok_weaker c.ask_ip.result (λ learned used not_no. learned (unknown c.ip.result (ip_of c.args.passed.now.on) c.ip.ensures.exact (c.must_ask.ensures.asked c.if-not-must_ask.false) not_no)) c.ask_ip.ensures.learned;
      same_transport = c.ask_ip.ensures.same_transport;
    }

pub ask_ip-requires : goal.ask_ip-requires
ask_ip-requires g c =
    let used = c.must_ask.ensures.used c.if-not-must_ask.false in let whole = version_weight-asked c.args.passed.now.on c.ip.result c.ip.ensures.exact (c.must_ask.ensures.asked c.if-not-must_ask.false) in rw (whole, used) at c.requires
