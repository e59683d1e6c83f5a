use Rattle.std.proofs.Common.{refl}
use Rattle.std.proofs.lemmas.Result.{on_ok_weaker}
use Rattle.filter_emit.proofs.GuardLemmas.{Extends-extends, Extends-pushed}
use Rattle.filter_compile.proofs.ArithmeticLemmas.{Computes-at}
use Rattle.filter_compile.proofs.arithmetic.load_at.Goals as goal

pub returns : goal.returns
returns g c = record {
  loads = on_ok_weaker c.push-2.result
      (λ pushed. Extends-extends (λ later mid words one two known d. Computes-at c.args.bytes c.size.result c.size.ensures d later mid words two one known)
      (Extends-pushed (λ len pc. refl) c.in_ok-push.ensures.appended) (Extends-pushed (λ len pc. refl) pushed))
      c.push-2.ensures.appended;
}
