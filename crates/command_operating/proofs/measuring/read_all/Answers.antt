use Rattle.std.proofs.Common.{refl}
use Rattle.control_rules.proofs.FoundLemmas.{some_holds}
use Rattle.control_counters.proofs.WatchLemmas.{watches_weaker}
use Rattle.command_operating.proofs.MeasuringLemmas.{watched}
use Rattle.command_operating.proofs.measuring.read_all.Goals as goal

pub returns-in-Some : goal.returns-in-Some
returns-in-Some g c =
    watched _ _ c.args.client.now.switch _ refl
    (watches_weaker _ _ _ _ (λ history told are it. some_holds _ _ c.in-Some.reading (it tt) c.in-Some.is) c.in_ok-reading.ensures)
