use Rattle.std.proofs.Common.{length, subst, sym, ℕ, ◌≡◌}
use Rattle.versions.specs.declared.layout.TheConstants.{WORKERS}
use Rattle.versions.specs.Book.{IsCleared}
use Rattle.read_section.specs.body.OperatorKept.{IsKeptBy}
use Rattle.read_section.proofs.OperatorSeatLemmas.{worker_fits}
use Rattle.read_section.proofs.KeeperLemmas.{IsKeptBy-scanned}
use Rattle.read_section.proofs.operator.Operator.meet.Goals as goal

pub take_scan-requires : goal.take_scan-requires
take_scan-requires c = record { worker = worker_fits c.number-number.result c.number-number.ensures.below }

pub invariant_of-self : goal.invariant_of-self
invariant_of-self c = let t = c.meet-word.ensures in let number = c.number-number.ensures.number in
    subst (λ o. IsKeptBy o.view c.self.inside.config c.take_scan.new.self c.self.inside.reported c.self.inside.zeros c.self.inside.words.items c.self.inside.pages) (sym t.operator)
    (IsKeptBy-scanned _ _ _ _ _ _ _ c.self.invariant c.args.worker.now.view.number c.meet-word.result _ c.take_scan.new.self
    (subst (λ (w : ℕ). length c.self.inside.book.cleared ≡ WORKERS → IsCleared w c.meet-word.result c.self.inside.book c.take_scan.new.self) number c.take_scan.ensures.cleared))
