use Rattle.std.proofs.Common.{◌<◌, length}
use Rattle.member_group.specs.declared.TheConstants.{GROUP_LIMIT}
use Rattle.member_group.proofs.AnswerLemmas.{add_full, add_refused, adds}
use Rattle.member_group.proofs.config.Config.gap_for.Goals as goal

pub returns-in-Ok-clause-refused : goal.returns-in-Ok-clause-refused
returns-in-Ok-clause-refused g c = add_refused c.args.key c.args.self.now c.in-Ok._taken (rw (← c.groups.ensures.groups) c.in-Ok.ensures.found)

pub returns-then-groups-ge-GROUP_LIMIT-clause-refused : goal.returns-then-groups-ge-GROUP_LIMIT-clause-refused
returns-then-groups-ge-GROUP_LIMIT-clause-refused g c =
    add_full c.args.key c.args.self.now c.in-Err.gap (rw (← c.groups.ensures.groups) c.in-Err.ensures.absent) (rw (← c.groups-2.ensures.groups) c.if-groups-ge-GROUP_LIMIT.true)

pub returns-clause-gap : goal.returns-clause-gap
returns-clause-gap g c = rw (← c.groups.ensures.groups) c.in-Err.ensures.absent

pub returns-clause-added : goal.returns-clause-added
returns-clause-added g c =
    let room : length c.args.self.now < GROUP_LIMIT = rw (← c.groups-2.ensures.groups) c.if-groups-ge-GROUP_LIMIT.false in
    (room, adds c.args.key c.args.self.now c.in-Err.gap (rw (← c.groups.ensures.groups) c.in-Err.ensures.absent) room)
