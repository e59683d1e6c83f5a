use Rattle.std.proofs.Common.{arith, refl, true}
use Rattle.std.proofs.lemmas.Result.{on_ok_weaker}
use Rattle.filter_emit.proofs.GuardLemmas.{Extends-means, Extends-none, Extends-pushed, Extends-weight}
use Rattle.filter_compile.specs.body.Piece.{LoadsHeader}
use Rattle.filter_compile.proofs.ArithmeticLemmas.{Computes-header, Computes-held}
use Rattle.filter_compile.proofs.load.load_header.Goals as goal

pub returns-then-held : goal.returns-then-held
returns-then-held g c = record { extends = rw c.if-held.true (Extends-weight 1 (omega arith) (Extends-none {step = LoadsHeader true} c.args.code.now (λ words d. Computes-held d words))) }

pub returns : goal.returns
returns g c = record {
  extends = on_ok_weaker c.push.result (λ pushed. Extends-means (λ later words h d. Computes-header d c.args.held later words h) (Extends-pushed (λ len pc. refl) pushed)) c.push.ensures.appended;
}
