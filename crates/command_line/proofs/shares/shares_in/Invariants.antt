use Rattle.std.proofs.Common.{◌≡◌, ◌++◌, length, map, option_map}
use Rattle.command_line.specs.Shares.{shares_in}
use Rattle.command_line.proofs.shares.shares_in.Given as goal

abbrev pub invariant-loop-left : goal.invariant-loop-left
invariant-loop-left l =
    shares_in (map (λ word. word.now) l.words) ≡ option_map (λ others. l.shares.items ++ others) (shares_in (map (λ word. word.now) l.left))

abbrev pub decreases-loop-left : goal.decreases-loop-left
decreases-loop-left l = length l.left
