use Rattle.std.proofs.Common.{subst, sym}
use Rattle.member_group.specs.Group.{IsGroup}
use Rattle.member_group.proofs.ChargeLemmas.{IsCounted-joined}
use Rattle.member_group.proofs.group.Parts.add_member.Goals as goal

pub invariant_of-self-2 : goal.invariant_of-self-2
invariant_of-self-2 g c =
    rw c.in_ok-push.ensures.items (IsCounted-joined c.args.id c.args.to _ c.self.inside.charge c.self.inside.words (subst IsGroup (sym c.self.view_is) c.requires.group) c.self.invariant)
