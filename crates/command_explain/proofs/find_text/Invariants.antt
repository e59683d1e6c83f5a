use Rattle.std.proofs.Common.{◌≡◌, length, map}
use Rattle.command_explain.specs.Explanation.{text_beside}
use Rattle.command_explain.proofs.find_text.Given as goal

abbrev pub invariant-loop-rows : goal.invariant-loop-rows
invariant-loop-rows l =
    text_beside (map (λ row. (row.0.now, row.1.now)) l.rows) l.code ≡ text_beside (map (λ row. (row.0.now, row.1.now)) l.initial.rows) l.code

abbrev pub decreases-loop-rows : goal.decreases-loop-rows
decreases-loop-rows l = length l.rows
