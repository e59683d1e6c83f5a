use Rattle.std.proofs.Common.{refl}
use Rattle.command_operating.proofs.ShowingLemmas.{rules_learned}
use Rattle.command_operating.proofs.showing.rules_text.Goals as goal

pub returns-in-Some : goal.returns-in-Some
returns-in-Some g c =
    let read = rw c.in-Some.is at c.in_ok-rules.ensures.read in
    rules_learned _ _ c.args.client.now.switch c.in-Some.rules.version c.in-Some.rules.text.items refl read
