use Rattle.control_client.specs.Wire.{peer_of}
use Rattle.command_operating.proofs.MeasuringLemmas.{on_ok_all, writes_screens}
use Rattle.command_operating.proofs.watching.print_top.Goals as goal

pub returns-clause-shown : goal.returns-clause-shown
returns-clause-shown g c =
    on_ok_all c.print_screens.result
    (λ it. writes_screens _ _ (peer_of c.args.reach.address) c.args.watching.clears c.args.watching.count _ _ c.in-Ok.ensures it)
    c.print_screens.ensures.shown
