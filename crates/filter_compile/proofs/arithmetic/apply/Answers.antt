use Rattle.std.proofs.Common.{refl}
use Rattle.filter_emit.proofs.GuardLemmas.{Extends-extends, Extends-pushed}
use Rattle.filter_compile.specs.declared.arithmetic.Simple.TheVariants.{Length}
use Rattle.filter_compile.specs.body.Arithmetic.{simple_value}
use Rattle.filter_compile.proofs.ArithmeticLemmas.{Computes-applied, Pairs-length}
use Rattle.filter_compile.proofs.arithmetic.apply.Goals as goal

pub returns-in-Number : goal.returns-in-Number
returns-in-Number g c = record { applies = rw c.in-Number.is c.apply_number.ensures.applies }

pub returns-in_ok-push-in-Length-2 : goal.returns-in_ok-push-in-Length-2
returns-in_ok-push-in-Length-2 g c = record {
  applies = rw c.in-Length.is (Extends-extends
      (λ later mid words one two d. Computes-applied c.args.operator c.operation.result c.operation.ensures (simple_value Length) c.args.held d later mid words two (Pairs-length c.args.held d mid words one))
      (Extends-pushed (λ len pc. refl) c.in_ok-push-in-Length.ensures.appended) (Extends-pushed (λ len pc. refl) c.in_ok-push-in-Length-2.ensures.appended));
}
