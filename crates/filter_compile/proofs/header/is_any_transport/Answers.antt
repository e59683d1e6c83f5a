use Rattle.std.proofs.Common.{arith, refl, true, ◌==◌}
use Rattle.std.specs.Prelude.{◌||◌}
use Rattle.std.proofs.lemmas.Result.{on_ok_weaker}
use Rattle.filter_emit.specs.Checks.{Checks}
use Rattle.filter_emit.proofs.CheckLemmas.{Checks-or}
use Rattle.filter_emit.proofs.GuardLemmas.{Extends-writes}
use Rattle.filter_emit.proofs.WritesLemmas.{Writes-weight}
use Rattle.filter_tree.specs.declared.primitive.Transport.TheVariants.{Unnamed}
use Rattle.filter_tree.specs.Primitive.{has_ports}
use Rattle.filter_compile.proofs.GuardLemmas.{Guards-writes_no}
use Rattle.filter_compile.proofs.HeaderLemmas.{Decides-protocol, or_same}
use Rattle.filter_compile.proofs.TestLemmas.{Asks-checks}
use Rattle.filter_compile.proofs.header.is_any_transport.Goals as goal

pub returns : goal.returns
returns g c = record {
  writes = on_ok_weaker c.branch-code.result
      (λ w. let later = Guards-writes_no {both = Checks (λ a. a) (λ a x. a == 17 || a == 132)} (λ at_yes at_no mid words h k. Checks-or h k) c.in_ok-branch_if-2.ensures.guards w in
      let all = Guards-writes_no {both = Checks (λ a. a) (λ a x. a == 6 || (a == 17 || a == 132))} (λ at_yes at_no mid words h k. Checks-or h k) c.in_ok-branch_if.ensures.guards later in
      Writes-weight 10 (omega arith) (Extends-writes (λ at_yes at_no mid words brings checks. Decides-protocol at_yes at_no mid words c.args.in_a (has_ports Unnamed) brings (Asks-checks true (has_ports Unnamed) (λ a x fits. or_same (a == 6) (a == 17) (a == 132)) (λ a kept. refl) checks))
      c.in_ok-load.ensures.extends all))
      c.branch-code.ensures.writes;
}
