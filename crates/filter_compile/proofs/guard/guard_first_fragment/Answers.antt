use Rattle.std.proofs.Common.{refl, sym}
use Rattle.std.proofs.lemmas.Result.{on_ok_weaker}
use Rattle.filter_tree.specs.Outcome.{where_so}
use Rattle.filter_tree.specs.Primitive.{is_first_fragment}
use Rattle.filter_compile.proofs.GuardLemmas.{Adds-none, unused, yes_where}
use Rattle.filter_compile.proofs.guard.guard_first_fragment.Goals as goal

pub returns-then-first_fragment : goal.returns-then-first_fragment
returns-then-first_fragment g c = record {
  adds = Adds-none c.args.passed.now (λ packet. where_so c.args.used (is_first_fragment packet)) _ c.args.code.now c.args.no.now (λ packet a x h. yes_where c.args.used (is_first_fragment packet) (c.if-first_fragment.ensures.known refl packet a x h));
  learned = λ used ip. sym c.if-first_fragment.ensures.exact;
  same_transport = λ transport. refl;
}

pub returns-then-not-used : goal.returns-then-not-used
returns-then-not-used g c = record {
  adds = Adds-none c.args.passed.now (λ packet. where_so c.args.used (is_first_fragment packet)) _ c.args.code.now c.args.no.now (λ packet a x h. unused c.args.used (is_first_fragment packet) c.if-not-used.true);
  learned = λ used ip. absurd cc;
  same_transport = λ transport. refl;
}

pub returns : goal.returns
returns g c = record { adds = rw (c.if-not-used.false) c.ask_first_fragment.ensures.adds; learned = on_ok_weaker c.ask_first_fragment.result (λ learned used. learned) c.ask_first_fragment.ensures.learned; same_transport = c.ask_first_fragment.ensures.same_transport }
