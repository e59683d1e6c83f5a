use Rattle.serve_devices.proofs.ChannelLemmas.{takes}
use Rattle.serve_devices.proofs.channel.ChannelReceiver.poll.Goals as goal

pub try_recv_as-requires-clause-rule : goal.try_recv_as-requires-clause-rule
try_recv_as-requires-clause-rule g c = (takes _ _ c.args.self.now.right, λ items views holds at. tt)
