use Rattle.control_client.specs.Wire.{peer_of}
use Rattle.command_operating.proofs.ShowingLemmas.{loaded_so}
use Rattle.command_operating.proofs.loading.replaced.Goals as goal

pub returns : goal.returns
returns g c =
    let loads = rw c.deref.ensures.value at c.load.ensures.loaded in
    record { loaded = loaded_so _ _ (peer_of c.args.reach.address) c.args.file.now.text.items c.args.file.now.config c.load.result c.in_ok-client.ensures loads }
