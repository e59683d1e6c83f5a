use Rattle.std.proofs.Common.{None, Some, ap, cond, refl}
use Rattle.std.proofs.lemmas.Bool.{lt-ltb}
use Rattle.std.proofs.lemmas.Result.{on_ok_weaker}
use Rattle.bpf_verify.specs.declared.TheConstants.{CELLS}
use Rattle.bpf_verify.specs.declared.fault.Fault.TheVariants.{BadCell}
use Rattle.filter_emit.proofs.GuardLemmas.{Extends-extends, Extends-pushed}
use Rattle.filter_compile.proofs.arithmetic.restore.Goals as goal

pub returns : goal.returns
returns g c = record {
  restores = on_ok_weaker c.push-2.result
      (λ pushed. Extends-extends (λ later mid words one two. (mid, two, one)) (Extends-pushed (λ len pc. refl) c.in_ok-push.ensures.appended)
      (Extends-pushed (λ len pc. ap (λ b. cond b None (Some (BadCell pc))) (lt-ltb c.args.cell CELLS c.requires.cell)) pushed))
      c.push-2.ensures.appended;
}
