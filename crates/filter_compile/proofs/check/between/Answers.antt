use Rattle.std.proofs.Common.{arith, refl, true}
use Rattle.std.specs.Prelude.{◌&&◌, nat_le, nat_lt, not}
use Rattle.std.proofs.lemmas.Result.{on_ok_weaker}
use Rattle.filter_emit.specs.Checks.{Checks}
use Rattle.filter_emit.proofs.BothLemmas.{Writes-and}
use Rattle.filter_emit.proofs.CheckLemmas.{Checks-and, Checks-not}
use Rattle.filter_emit.proofs.WritesLemmas.{Writes-means, Writes-not, bindable}
use Rattle.filter_tree.specs.Primitive.{is_between}
use Rattle.filter_compile.proofs.HeaderLemmas.{between_asked}
use Rattle.filter_compile.proofs.TestLemmas.{Asks-checks}
use Rattle.filter_compile.proofs.check.between.Goals as goal

pub bind-requires-clause-open : goal.bind-requires-clause-open
bind-requires-clause-open g c = bindable c.label-on.ensures.empty c.in_ok-branch.ensures.writes

pub returns : goal.returns
returns g c = record {
  writes = on_ok_weaker c.branch-code-2.result
      (λ w. let upper = Writes-not {other = Checks (λ a. a) (λ a x. not (nat_lt c.max.result a))} (λ at_yes at_no words h. Checks-not h) w in
      let by = c.label-on.ensures.by in let long = c.len.ensures.length in
      Writes-means (λ at_yes at_no words h. Asks-checks true (is_between c.args.n c.args.m) (λ a x fits. between_asked c.args.n c.args.m c.min.result c.max.result a c.min.ensures c.max.ensures) (λ a kept. refl) h)
      (Writes-and {both = Checks (λ a. a) (λ a x. nat_le c.min.result a && not (nat_lt c.max.result a))} c.label-on.ensures.empty (let room = c.requires.behind in omega arith) (λ at_yes at_no mid words h k. Checks-and h k)
      c.in_ok-branch.ensures.writes c.bind.ensures.bound upper))
      c.branch-code-2.ensures.writes;
}
