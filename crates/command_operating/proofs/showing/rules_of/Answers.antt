use Rattle.command_operating.proofs.showing.rules_of.Goals as goal

pub returns : goal.returns
returns g c = rw c.in_ok-client.ensures at c.rules_text.ensures
