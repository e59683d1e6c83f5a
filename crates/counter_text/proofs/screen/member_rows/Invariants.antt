use Rattle.std.proofs.Common.{◌≡◌, ◌++◌, string_bytes, take}
use Rattle.std.specs.List.{flat_map}
use Rattle.counter_text.specs.Screen.{member_row, members_of}
use Rattle.counter_text.proofs.screen.member_rows.Given as goal

abbrev pub invariant-loop-member : goal.invariant-loop-member
invariant-loop-member l =
    string_bytes l.rows ≡ string_bytes l.fn.rows ++ flat_map (member_row l.earlier l.packets l.millis) (members_of l.group (take l.member-index l.later))
