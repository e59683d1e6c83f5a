use Rattle.std.proofs.Common.{rules}
use Rattle.serve_devices.proofs.ChannelLemmas.{begins, forks}
use Rattle.serve_devices.proofs.channel.pair.open_channel.Goals as goal

pub bounded_with-requires-clause-rule : goal.bounded_with-requires-clause-rule
bounded_with-requires-clause-rule g c = begins

pub another-other-requires-clause-rule : goal.another-other-requires-clause-rule
another-other-requires-clause-rule g c = forks _ _ (search rules) (search rules)
