use Rattle.std.proofs.Common.{inr, refl}
use Rattle.command_operating.proofs.MeasuringLemmas.{whole_known}
use Rattle.command_operating.proofs.measuring.drops_of.Goals as goal

pub returns-clause-input_failed : goal.returns-clause-input_failed
returns-clause-input_failed g c =
    let none = rw (c.in-None.is, c.deref.ensures.value) at c.in_ok-drops.ensures in
    inr (refl, (c.in_ok-table.table.items, whole_known _ _ c.in_ok-table.ensures.bytes, none), c.in_ok-table.ensures.device_failed)
