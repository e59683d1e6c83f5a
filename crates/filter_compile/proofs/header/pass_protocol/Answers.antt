use Rattle.std.proofs.Common.{◌==◌, arith, refl, true}
use Rattle.std.proofs.lemmas.Result.{on_ok_weaker}
use Rattle.filter_emit.proofs.GuardLemmas.{Extends-guards, Guards-weight}
use Rattle.filter_compile.proofs.HeaderLemmas.{Decides-protocol}
use Rattle.filter_compile.proofs.TestLemmas.{Asks-checks}
use Rattle.filter_compile.proofs.header.pass_protocol.Goals as goal

pub returns : goal.returns
returns g c = record {
  guards = on_ok_weaker c.branch_unless.result
      (λ w. Guards-weight 4 (omega arith) (Extends-guards (λ at_yes at_no mid words brings checks. Decides-protocol at_yes at_no mid words c.args.in_a (λ a. a == c.args.n) brings (Asks-checks true (λ a. a == c.args.n) (λ a x fits. refl) (λ a kept. refl) checks))
      c.in_ok-load.ensures.extends w))
      c.branch_unless.ensures.guards;
}
