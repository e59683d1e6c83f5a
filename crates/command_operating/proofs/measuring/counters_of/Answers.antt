use Rattle.command_operating.proofs.measuring.counters_of.Goals as goal

pub returns : goal.returns
returns g c = rw c.in_ok-client.ensures at c.read_all.ensures
