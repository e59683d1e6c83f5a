use Rattle.std.proofs.Common.{ap, arith, length, length-append, List, ◌≤◌}
use Rattle.versions.specs.View.{BeginsWith}
use Rattle.test_table.proofs.tests.sections.enter_told.Goals as goal

not_longer : {A : Type 0} → (list front : List A) → BeginsWith list front → length front ≤ length list
not_longer list front (rest, e) = let h = ap length e in omega (arith, length-append front rest)

pub returns : goal.returns
returns c = let told = not_longer _ _ c.meet_worker.ensures.told_by_worker in let grown = not_longer _ _ c.enter-section.ensures.seen_grows in
    let number = c.enter-section.ensures.number_is_seen in let is = c.number-number.ensures in record { told = omega arith }
