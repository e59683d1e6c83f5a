use Rattle.serve_devices.proofs.ChannelLemmas.{puts}
use Rattle.serve_devices.proofs.channel.ChannelSender.put.Goals as goal

pub send_as-requires-clause-rule : goal.send_as-requires-clause-rule
send_as-requires-clause-rule g c = (puts _ _ _ _ c.args.self.now.right, λ items views holds at. tt)
