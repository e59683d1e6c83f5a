use Rattle.std.proofs.Common.{arith}
use Rattle.std.proofs.lemmas.Grind.{common_steps}
use Rattle.member_group.proofs.ChargeLemmas.{members_of-more}
use Rattle.member_group.proofs.config.Config.members.Goals as goal

pub loop-group-preserved : goal.loop-group-preserved
loop-group-preserved g c =
    let more = members_of-more c.groups-group-items.result.now c.loop-group.group-index c.group-item.result c.loop-group-test.true in
    grind (arith, common_steps, more)

pub returns : goal.returns
returns g c = grind (arith, common_steps)
