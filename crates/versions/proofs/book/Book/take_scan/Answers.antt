use Rattle.std.proofs.Common.{arith, inr, refl, ⊎_elim}
use Rattle.versions.proofs.BookLemmas.{IsCleared-grown, grown_not_below, least_kept}
use Rattle.versions.proofs.book.Book.take_scan.Goals as goal

pub returns-then-below-before : goal.returns-then-below-before
returns-then-below-before g c = record {
  cleared = λ long. let less = c.if-below-before.true in let shown = c.clear_below-below.ensures in record {
    number = refl;
    last = refl;
    last_use = refl;
    cleared_length = refl;
    others = λ v ne. refl;
    here = λ m. ((λ l. inr l), ⊎_elim (λ t. let l = (shown m).1 t in omega arith) (λ l. l));
    free = λ least. least;
  };
}

pub returns-then-before-self : goal.returns-then-before-self
returns-then-before-self g c = record {
  cleared = λ long. IsCleared-grown c.args.worker c.args.word c.clear_below-below.result c.least_from-self.result c.args.self.now (let low = c.requires.worker in omega arith) c.if-below-before.false
      c.clear_below-below.ensures (λ least. c.least_from-self.ensures (grown_not_below c.args.self.now.cleared c.args.worker c.clear_below-below.result c.args.self.now.free (omega arith) c.if-below-before.false least));
}

pub returns-else-before-self : goal.returns-else-before-self
returns-else-before-self g c = record {
  cleared = λ long. let low = c.requires.worker in
      IsCleared-grown c.args.worker c.args.word c.clear_below-below.result c.args.self.now.free c.args.self.now (omega arith) c.if-below-before.false c.clear_below-below.ensures
      (least_kept c.args.self.now.cleared c.args.worker c.clear_below-below.result c.args.self.now.free (omega arith) c.if-below-before.false c.if-before-self.false);
}
