use Rattle.std.proofs.Common.{refl}
use Rattle.member_group.proofs.ConfigLemmas.{group_of-gap}
use Rattle.member_group.proofs.config.Config.place_of_group.Goals as goal

pub returns-in-Err-clause-absent : goal.returns-in-Err-clause-absent
returns-in-Err-clause-absent g c = (refl, group_of-gap c.args.key c.args.self.now c.in-Err._gap (rw (← c.groups.ensures.groups) c.in-Err.ensures.absent))
