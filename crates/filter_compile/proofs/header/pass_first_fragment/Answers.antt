use Rattle.std.proofs.Common.{◌==◌, ◌∙◌, arith, bit_and, false, refl}
use Rattle.std.proofs.lemmas.Result.{on_ok_weaker}
use Rattle.filter_emit.specs.Checks.{Checks}
use Rattle.std.specs.Prelude.{not}
use Rattle.filter_emit.proofs.CheckLemmas.{Checks-not}
use Rattle.filter_emit.proofs.GuardLemmas.{Extends-guards, Extends-pushed, Guards-means, Guards-weight}
use Rattle.ipv4_fields.specs.Field.{bits_from}
use Rattle.filter_compile.proofs.HeaderLemmas.{Decides-offset, not_not, offset_asked}
use Rattle.filter_compile.proofs.TestLemmas.{Asks-checks}
use Rattle.filter_compile.proofs.header.pass_first_fragment.Goals as goal

pub returns : goal.returns
returns g c = record {
  guards = on_ok_weaker c.branch_if.result
      (λ w. Guards-weight 4 (omega arith) (Extends-guards (λ at_yes at_no mid words pushed checks. Decides-offset at_yes at_no mid words pushed (Asks-checks false (λ a. bits_from 0 13 a == 0) (λ a x fits. not_not (bit_and a 0x1fff == 0) ∙ offset_asked a) (λ a kept. absurd cc) checks))
      (Extends-pushed (λ len pc. refl) c.in_ok-push.ensures.appended) (Guards-means {other = Checks (λ a. a) (λ a x. not (not (bit_and a 0x1fff == 0)))} (λ at_yes at_no words checks. Checks-not checks) w)))
      c.branch_if.ensures.guards;
}
