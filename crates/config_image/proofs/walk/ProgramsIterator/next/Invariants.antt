use Rattle.std.proofs.Common.{◌≡◌, length}
use Rattle.config_image.specs.Walk.{programs_left}
use Rattle.config_image.proofs.walk.ProgramsIterator.next.Given as goal

abbrev pub invariant-groups : goal.invariant-groups
invariant-groups g l = programs_left l.self-inside ≡ l.fn.self

abbrev pub decreases-groups : goal.decreases-groups
decreases-groups g l = length l.self-inside.groups.now

abbrev pub invariant-members : goal.invariant-members
invariant-members g l = (programs_left l.self-inside ≡ l.fn.self) × (l.self-inside.groups.now ≡ l.initial.self-inside.groups.now)

abbrev pub decreases-members : goal.decreases-members
decreases-members g l = length l.self-inside.members.now
