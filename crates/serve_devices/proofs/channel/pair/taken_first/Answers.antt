use Rattle.std.proofs.Common.{rules}
use Rattle.serve_devices.proofs.ChannelLemmas.{forks, learns, merges}
use Rattle.serve_devices.proofs.channel.pair.taken_first.Goals as goal

pub absorb-requires-clause-rule : goal.absorb-requires-clause-rule
absorb-requires-clause-rule g c = merges _ _ _ _ c.args.sender.right c.args.receiver.right

pub learn_as-requires-clause-rule : goal.learn_as-requires-clause-rule
learn_as-requires-clause-rule g c = learns _ _ (search rules) (search rules)

pub another-other-requires-clause-rule : goal.another-other-requires-clause-rule
another-other-requires-clause-rule g c = forks _ _ (search rules) (search rules)
