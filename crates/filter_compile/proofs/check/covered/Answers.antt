use Rattle.std.proofs.Common.{◌-◌, ◌/◌, ◌<◌, ◌^◌, None, Some, ap, arith, bit_and, cond, false, refl}
use Rattle.std.proofs.lemmas.Bool.{lt-ltb}
use Rattle.std.proofs.lemmas.Result.{on_ok_weaker}
use Rattle.bpf_insn.specs.declared.instruction.Operation.TheVariants.{And, Rsh}
use Rattle.bpf_verify.specs.declared.fault.Fault.TheVariants.{BadShift}
use Rattle.filter_emit.proofs.CheckLemmas.{Checks-alu}
use Rattle.filter_emit.proofs.GuardLemmas.{Extends-pushed, Extends-writes}
use Rattle.filter_tree.specs.Prefix.{covers}
use Rattle.filter_compile.proofs.HeaderLemmas.{covered_by_bits, covered_by_none, shifts}
use Rattle.filter_compile.proofs.TestLemmas.{Asks-checks}
use Rattle.filter_compile.proofs.check.covered.Goals as goal

pub returns-then-length-eq0 : goal.returns-then-length-eq0
returns-then-length-eq0 g c = record {
  writes = on_ok_weaker c.branch-code.result
      (λ w. Extends-writes (λ at_yes at_no mid words pushed checks. Asks-checks false (covers c.args.prefix)
      (λ a x low. covered_by_none c.args.prefix a (let l = c.length.ensures.length in let z = c.if-length-eq0.true in omega arith) (let e = c.address-address.ensures.address in let t = c.address-address.type_inv in omega arith) low)
      (λ a kept. absurd cc) (Checks-alu (λ a. bit_and a 0) And 0 (λ a. refl) pushed checks))
      (Extends-pushed (λ len pc. refl) c.in_ok-push.ensures.appended) w)
      c.branch-code.ensures.writes;
}

pub returns : goal.returns
returns g c =
    let k = 32 - c.length-shift.result in let shifted = c.address-address.result / 2 ^ k in
    let small : k < 32 = (let l = c.length-shift.ensures.length in let m = c.length.ensures.length in let z = c.if-length-eq0.false in omega arith) in record {
      writes = on_ok_weaker c.branch-code-2.result
          (λ w. Extends-writes (λ at_yes at_no mid words pushed checks. Asks-checks false (covers c.args.prefix)
          (λ a x low. covered_by_bits c.args.prefix k shifted a (let l = c.length-shift.ensures.length in omega arith) (ap (λ n. n / 2 ^ k) c.address-address.ensures.address))
          (λ a kept. absurd cc) (Checks-alu (λ a. a / 2 ^ k) Rsh k (λ a. shifts k a small) pushed checks))
          (Extends-pushed (λ len pc. ap (λ b. cond b None (Some (BadShift pc))) (lt-ltb k 32 small)) c.in_ok-push-2.ensures.appended) w)
          c.branch-code-2.ensures.writes;
    }
