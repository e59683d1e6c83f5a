use Rattle.std.proofs.Common.{◌==◌, arith, bit_and, false, refl}
use Rattle.std.proofs.lemmas.Result.{on_ok_weaker}
use Rattle.bpf_insn.specs.declared.instruction.Operation.TheVariants.{And}
use Rattle.filter_emit.proofs.CheckLemmas.{Checks-alu}
use Rattle.filter_emit.proofs.GuardLemmas.{Extends-guards, Extends-pushed, Guards-weight}
use Rattle.ipv4_fields.specs.Field.{bits_from}
use Rattle.filter_compile.specs.body.Piece.{Asks}
use Rattle.filter_compile.proofs.HeaderLemmas.{Decides-version, version_asked}
use Rattle.filter_compile.proofs.TestLemmas.{Asks-checks}
use Rattle.filter_compile.proofs.header.pass_ip.Goals as goal

pub returns : goal.returns
returns g c = record {
  guards = on_ok_weaker c.branch_unless.result
      (λ w. Guards-weight 5 (omega arith) (Extends-guards {two = Asks false (λ a. bits_from 4 4 a == 4)} (λ at_yes at_no mid words pushed asks. Decides-version at_yes at_no mid words pushed asks)
      (Extends-pushed (λ len pc. refl) c.in_ok-push.ensures.appended)
      (Extends-guards (λ at_yes at_no mid words pushed checks. Asks-checks false (λ a. bits_from 4 4 a == 4) (λ a x fits. version_asked a) (λ a kept. absurd cc) (Checks-alu (λ a. bit_and a 0xf0) And 0xf0 (λ a. refl) pushed checks))
      (Extends-pushed (λ len pc. refl) c.in_ok-push-2.ensures.appended) w)))
      c.branch_unless.ensures.guards;
}
