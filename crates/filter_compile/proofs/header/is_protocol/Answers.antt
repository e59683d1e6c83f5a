use Rattle.std.proofs.Common.{◌==◌, refl, true}
use Rattle.std.proofs.lemmas.Result.{on_ok_weaker}
use Rattle.filter_emit.proofs.GuardLemmas.{Extends-writes}
use Rattle.filter_compile.proofs.HeaderLemmas.{Decides-protocol}
use Rattle.filter_compile.proofs.TestLemmas.{Asks-checks}
use Rattle.filter_compile.proofs.header.is_protocol.Goals as goal

pub returns : goal.returns
returns g c = record {
  writes = on_ok_weaker c.branch-code.result
      (λ w. Extends-writes (λ at_yes at_no mid words brings checks. Decides-protocol at_yes at_no mid words c.args.in_a (λ a. a == c.args.n) brings (Asks-checks true (λ a. a == c.args.n) (λ a x fits. refl) (λ a kept. refl) checks))
      c.in_ok-load.ensures.extends w)
      c.branch-code.ensures.writes;
}
