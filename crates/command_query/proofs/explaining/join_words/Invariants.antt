use Rattle.std.proofs.Common.{◌≡◌, ◌++◌, length, map}
use Rattle.control_line.specs.Request.{spaced}
use Rattle.command_query.proofs.JoinLemmas.{after_spaces}
use Rattle.command_query.proofs.explaining.join_words.Given as goal

abbrev pub invariant-loop-left : goal.invariant-loop-left
invariant-loop-left l =
    l.text.items ++ after_spaces (map (λ word. word.now) l.left) ≡ spaced (map (λ word. word.now) l.words)

abbrev pub decreases-loop-left : goal.decreases-loop-left
decreases-loop-left l = length l.left
