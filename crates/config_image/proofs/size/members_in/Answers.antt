use Rattle.std.proofs.Common.{◌≡◌, ap, arith, length}
use Rattle.member_group.specs.Group.{IsGroup}
use Rattle.config_image.proofs.WordLemmas.{item_of_all, members_of-split}
use Rattle.config_image.proofs.size.members_in.Goals as goal

pub loop-group-preserved : goal.loop-group-preserved
loop-group-preserved g c =
    let own : length c.members.result.now ≡ length c.group-item.result.members = ap length c.members.ensures.members in
    let few = (item_of_all IsGroup c.args.groups.now c.loop-group.group-index c.group-item.result c.loop-group-test.true c.group-item.is c.requires.groups).limited in
    let split = members_of-split c.args.groups.now c.loop-group.group-index c.group-item.result c.loop-group-test.true c.group-item.is in
    (omega arith, omega arith)
