use Rattle.std.proofs.Common.{◌≡◌, ◌++◌, codes, string_bytes, take}
use Rattle.std.specs.List.{flat_map}
use Rattle.counter_text.specs.Growth.{totals_grown}
use Rattle.counter_text.specs.Screen.{group_rows, header, totals_line, totals_rates}
use Rattle.counter_text.proofs.screen.push_screen.Given as goal

abbrev pub invariant-loop-group : goal.invariant-loop-group
invariant-loop-group l =
    string_bytes l.text
    ≡ string_bytes l.fn.text
    ++ (totals_line (codes "totals") l.later.totals ++ totals_line (codes "rates") (totals_rates (totals_grown l.earlier.totals l.later.totals) l.millis) ++ header
    ++ flat_map (group_rows l.earlier l.later l.millis) (take l.group-index l.later.groups.items))
