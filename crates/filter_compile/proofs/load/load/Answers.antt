use Rattle.std.proofs.Common.{◌≡◌, Some, arith, rules}
use Rattle.std.proofs.lemmas.Result.{on_ok_weaker}
use Rattle.filter_emit.proofs.GuardLemmas.{Extends-means, Extends-none, Extends-pushed, Extends-weight}
use Rattle.filter_compile.specs.body.Piece.{Brings}
use Rattle.filter_compile.proofs.HeaderLemmas.{Brings-held, Brings-load}
use Rattle.filter_compile.proofs.load.load.Goals as goal

pub returns-in-Some : goal.returns-in-Some
returns-in-Some g c =
    let held : c.args.in_a ≡ Some c.args.loaded = search rules in record {
      extends = rw held (Extends-weight 1 (omega arith) (Extends-none {step = Brings (Some c.args.loaded) c.args.loaded} c.args.code.now (λ words. Brings-held c.args.loaded words)));
    }

pub returns-in_default : goal.returns-in_default
returns-in_default g c = record {
  extends = on_ok_weaker c.push.result
      (λ pushed. Extends-means (λ later words h. Brings-load c.load_of.result c.args.in_a c.args.loaded later words c.load_of.ensures.plain c.load_of.ensures.loads h) (Extends-pushed c.load_of.ensures.no_fault pushed)) c.push.ensures.appended;
}
