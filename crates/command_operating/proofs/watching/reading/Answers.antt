use Rattle.control_counters.proofs.WatchLemmas.{watches_weaker}
use Rattle.control_rules.proofs.FoundLemmas.{some_holds}
use Rattle.command_operating.proofs.watching.reading.Goals as goal

pub returns-in-Some-clause-read : goal.returns-in-Some-clause-read
returns-in-Some-clause-read g c =
    watches_weaker c.args.client.now c.read_counters.new.client _ _ (λ history told are it known. some_holds _ _ c.in-Some.reading (it known) c.in-Some.is)
    c.in-Ok.ensures
