use Rattle.std.proofs.Common.{◌==◌, refl, true}
use Rattle.std.proofs.lemmas.Result.{on_ok_weaker}
use Rattle.filter_emit.proofs.WritesLemmas.{Writes-means}
use Rattle.filter_compile.proofs.TestLemmas.{Asks-checks}
use Rattle.filter_compile.proofs.check.ask.Goals as goal

pub returns-in-Equal : goal.returns-in-Equal
returns-in-Equal g c = record {
  writes = rw c.in-Equal.is (on_ok_weaker c.branch-code.result (λ w. Writes-means (λ at_yes at_no words h. Asks-checks true (λ a. a == c.in-Equal.n) (λ a x fits. refl) (λ a kept. refl) h) w) c.branch-code.ensures.writes);
}

pub returns-in-Covered : goal.returns-in-Covered
returns-in-Covered g c = record { writes = rw c.in-Covered.is c.covered.ensures.writes }

pub returns-in-Between : goal.returns-in-Between
returns-in-Between g c = record { writes = rw c.in-Between.is c.between.ensures.writes }
