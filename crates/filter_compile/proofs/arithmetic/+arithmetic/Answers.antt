use Rattle.std.proofs.Common.{arith, refl}
use Rattle.std.proofs.lemmas.Result.{IfOk-weaker, on_ok_weaker}
use Rattle.filter_emit.proofs.GuardLemmas.{Extends-means, Extends-pushed}
use Rattle.filter_tree.specs.Arithmetic.{value_of_arith}
use Rattle.filter_tree.specs.View.{arith_tree_of}
use Rattle.filter_compile.specs.body.Arithmetic.{simple_value}
use Rattle.filter_compile.proofs.ArithmeticLemmas.{Computes-length, Computes-number}
use Rattle.filter_compile.proofs.StepLemmas.{Extends-accessor, Extends-direct, Extends-operation, Extends-pairs, Extends-simple}
use Rattle.filter_compile.proofs.arithmetic.+arithmetic.Goals as goal

pub arithmetic-returns-in_ok-push-in-Number : goal.arithmetic-returns-in_ok-push-in-Number
arithmetic-returns-in_ok-push-in-Number g height c = record {
  computes = rw c.in-Number.is (Extends-means (λ later words h. Computes-number c.args.held c.args.level later words c.in-Number.n h) (Extends-pushed (λ len pc. refl) c.in_ok-push-in-Number.ensures.appended));
}

pub arithmetic-returns-in_ok-push-in-Length : goal.arithmetic-returns-in_ok-push-in-Length
arithmetic-returns-in_ok-push-in-Length g height c = record {
  computes = rw c.in-Length.is (Extends-means (λ later words h. Computes-length c.args.held c.args.level later words h) (Extends-pushed (λ len pc. refl) c.in_ok-push-in-Length.ensures.appended));
}

pub arithmetic-returns-in-Accessor : goal.arithmetic-returns-in-Accessor
arithmetic-returns-in-Accessor g height c = record { computes = rw (c.in-Accessor.is, ← c.deref.ensures) c.accessor.ensures.computes }

pub arithmetic-returns-in-Some : goal.arithmetic-returns-in-Some
arithmetic-returns-in-Some g height c =
    let left = arith_tree_of c.deref-in-Operation.result.now in let right = arith_tree_of c.deref-in-Operation-2.result.now in record {
      computes = rw (c.in-Operation.is, ← c.deref-in-Operation.ensures, ← c.deref-in-Operation-2.ensures)
          (IfOk-weaker c.apply.result _ _
          (λ after h. Extends-simple c.in-Operation.operator left right c.args.held c.in_ok-held-in-Operation.held c.args.level after (simple_value c.in-Some.right) c.in-Some.ensures.value c.in_ok-held-in-Operation.ensures.computes h) c.apply.ensures.applies);
    }

pub arithmetic-returns-in_ok-push-in-None : goal.arithmetic-returns-in_ok-push-in-None
arithmetic-returns-in_ok-push-in-None g height c =
    let left = arith_tree_of c.deref-in-Operation.result.now in let right = arith_tree_of c.deref-in-None.result.now in record {
      computes = rw (c.in-Operation.is, ← c.deref-in-Operation.ensures, ← c.deref-in-None.ensures)
          (Extends-operation c.in-Operation.operator left right c.args.held c.in_ok-held-in-Operation.held c.args.level c.operation.result c.operation.ensures c.in_ok-held-in-Operation.ensures.computes c.in_ok-pair-in-None.ensures.pairs c.in_ok-push-in-None.ensures.appended);
    }

pub accessor-returns-in-Some : goal.accessor-returns-in-Some
accessor-returns-in-Some g height c = record {
  computes = rw (c.in-Some.ensures.is)
      (IfOk-weaker c.load_directly.result _ _ (λ after h. Extends-direct c.args.protocol c.in-Some.k c.args.bytes c.args.held after c.args.level h) c.load_directly.ensures.loads);
}

pub accessor-returns-in_ok-load-in-None : goal.accessor-returns-in_ok-load-in-None
accessor-returns-in_ok-load-in-None g height c = record {
  computes = Extends-accessor c.args.protocol (arith_tree_of c.args.index.now) c.args.bytes c.args.held c.in_ok-held-in-None.held c.args.level c.in_ok-held-in-None.ensures.computes c.in_ok-load-in-None.ensures.loads;
}

pub pair-returns : goal.pair-returns
pair-returns g height c = record {
  pairs = on_ok_weaker c.restore.result (λ restores. Extends-pairs (value_of_arith (arith_tree_of c.args.right.now)) c.args.held c.in_ok-arithmetic.field-0 c.args.level (omega arith) c.in_ok-push.ensures.appended c.in_ok-arithmetic.ensures.computes restores)
      c.restore.ensures.restores;
}
