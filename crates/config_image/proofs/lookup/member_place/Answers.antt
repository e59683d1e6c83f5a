use Rattle.std.proofs.Common.{arith}
use Rattle.config_image.proofs.LookupLemmas.{entry_fits}
use Rattle.config_image.proofs.lookup.member_place.Goals as goal

pub overflow_add-result : goal.overflow_add-result
overflow_add-result g c =
    let place = c.members_place.ensures.place c.requires.0 c.requires.3.of c.requires.2 c.requires.3.group_at in
    let small = entry_fits _ c.requires.0 c.requires.2 c.args.group c.args.index c.requires.1 c.requires.3 in omega arith
