use Rattle.std.proofs.Common.{Some, arith, refl}
use Rattle.filter_emit.proofs.GuardLemmas.{Extends-extends, Extends-means, Extends-pushed, Extends-weight}
use Rattle.filter_compile.proofs.ArithmeticLemmas.{Computes-applied, Computes-constant, Pairs-number}
use Rattle.filter_compile.proofs.arithmetic.apply_number.Goals as goal

pub returns-then-is_taken : goal.returns-then-is_taken
returns-then-is_taken g c = record {
  applies = Extends-weight 2 (omega arith)
      (Extends-means (λ later words h d. Computes-constant c.args.operator c.operation-operation.result c.operation-operation.ensures c.args.n c.args.held d later words h) (Extends-pushed (λ len pc. c.if-is_taken.ensures refl pc) c.in_ok-push.ensures.appended));
}

pub returns : goal.returns
returns g c = record {
  applies = Extends-extends
      (λ later mid words one two d. Computes-applied c.args.operator c.operation-operation.result c.operation-operation.ensures (λ packet. Some c.args.n) c.args.held d later mid words two (Pairs-number c.args.n c.args.held d mid words one))
      (Extends-pushed (λ len pc. refl) c.in_ok-push-2.ensures.appended) (Extends-pushed (λ len pc. refl) c.in_ok-push-3.ensures.appended);
}
