use Rattle.serve_devices.proofs.ChannelLemmas.{takes}
use Rattle.serve_devices.proofs.channel.ChannelReceiver.take.Goals as goal

pub recv_as-requires-clause-rule : goal.recv_as-requires-clause-rule
recv_as-requires-clause-rule g c = (takes _ _ c.args.self.now.right, λ items views holds at. tt)
