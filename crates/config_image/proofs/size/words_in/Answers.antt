use Rattle.std.proofs.Common.{◌≡◌, ap, arith, length}
use Rattle.member_group.specs.Group.{IsGroup}
use Rattle.config_image.proofs.LengthLemmas.{counted_all}
use Rattle.config_image.proofs.WordLemmas.{item_of_all, members_of-split, programs_len-split}
use Rattle.config_image.proofs.size.words_in.Goals as goal

pub loop-group-preserved : goal.loop-group-preserved
loop-group-preserved g c =
    let own : length c.members.result.now ≡ length c.group-item.result.members = ap length c.members.ensures.members in
    let few = (item_of_all IsGroup c.args.groups.now c.loop-group.group-index c.group-item.result c.loop-group-test.true c.group-item.is c.requires.groups).limited in
    let members = members_of-split c.args.groups.now c.loop-group.group-index c.group-item.result c.loop-group-test.true c.group-item.is in
    let programs = programs_len-split c.args.groups.now c.loop-group.group-index c.group-item.result c.loop-group-test.true c.group-item.is in
    (omega arith, omega arith)

pub returns : goal.returns
returns g c =
    record { length = counted_all c.args.groups.now c.loop-group.group-index c.loop-group.len c.loop-group-test.false c.loop-group.invariant.0 }
