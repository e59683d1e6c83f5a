use Rattle.std.proofs.Common.{arith, true}
use Rattle.member_group.proofs.GroupLemmas.{with_member-only_at}
use Rattle.member_group.proofs.group.Group.with_lock.Goals as goal

pub offset_bounds-members-at : goal.offset_bounds-members-at
offset_bounds-members-at g c = rw c.members.ensures.members (omega arith)

pub bounds-members-at : goal.bounds-members-at
bounds-members-at g c = rw c.members.ensures.members c.requires.inside

pub returns : goal.returns
returns g c =
    record {
      changed = λ id only.
          rw (with_member-only_at id (λ member. record member { locked = true }) c.args.self.now c.args.at c.index-members-at.result (rw (← c.members.ensures.members) c.index-members-at.is) only, ← c.in_ok-member.ensures.copied)
          c.with_member_at.ensures.changed;
    }
