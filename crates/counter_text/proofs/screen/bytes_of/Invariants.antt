use Rattle.std.proofs.Common.{◌≡◌, ◌*◌, ◌^◌, ◌≤◌, take}
use Rattle.counter_text.specs.Screen.{bytes_of, members_of}
use Rattle.counter_text.proofs.screen.bytes_of.Given as goal

abbrev pub invariant-loop-member : goal.invariant-loop-member
invariant-loop-member l =
    (l.bytes ≡ bytes_of l.earlier (members_of l.key (take l.member-index l.members))) × (l.bytes ≤ l.member-index * 2 ^ 64)
