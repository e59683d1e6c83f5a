use Rattle.std.proofs.Common.{None, Some, ap, arith, cond, refl, subst}
use Rattle.std.proofs.lemmas.Bool.{lt-ltb}
use Rattle.bpf_verify.specs.declared.TheConstants.{ANCILLARY_FROM}
use Rattle.bpf_verify.specs.declared.fault.Fault.TheVariants.{Ancillary}
use Rattle.filter_emit.proofs.GuardLemmas.{Extends-extends, Extends-means, Extends-pushed, Extends-weight}
use Rattle.filter_compile.specs.body.Arithmetic.{IsDirect}
use Rattle.filter_compile.proofs.ArithmeticLemmas.{Computes-absolute, Computes-direct, direct_low}
use Rattle.filter_compile.proofs.arithmetic.load_directly.Goals as goal

pub returns-in_ok-push-in-Ip : goal.returns-in_ok-push-in-Ip
returns-in_ok-push-in-Ip g c =
    let direct = subst (λ p. IsDirect p c.args.k) c.in-Ip.is c.requires.direct in record {
      loads = rw c.in-Ip.is (Extends-weight 2 (omega arith)
          (Extends-means (λ later words h d. Computes-absolute c.args.bytes c.size.result c.size.ensures c.args.k d later words c.args.held h)
          (Extends-pushed (λ len pc. ap (λ b. cond b None (Some (Ancillary pc))) (lt-ltb c.args.k ANCILLARY_FROM (omega arith))) c.in_ok-push-in-Ip.ensures.appended)));
    }

pub returns-in_ok-push-in_default : goal.returns-in_ok-push-in_default
returns-in_ok-push-in_default g c = record {
  loads = Extends-extends
      (λ later mid words held pushed d. Computes-direct c.args.bytes c.size-in_default.result c.size-in_default.ensures c.args.k d later mid c.args.protocol c.in_default.not-Ip (direct_low c.args.protocol c.args.k c.in_default.not-Ip c.requires.direct) c.args.held words (held d) pushed)
      c.in_ok-load_header-in_default.ensures.extends (Extends-pushed (λ len pc. refl) c.in_ok-push-in_default.ensures.appended);
}
