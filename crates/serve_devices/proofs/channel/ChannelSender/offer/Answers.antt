use Rattle.serve_devices.proofs.ChannelLemmas.{puts}
use Rattle.serve_devices.proofs.channel.ChannelSender.offer.Goals as goal

pub try_send_as-requires-clause-rule : goal.try_send_as-requires-clause-rule
try_send_as-requires-clause-rule g c = (puts _ _ _ _ c.args.self.now.right, λ items views holds at. tt)
