use Rattle.std.proofs.Common.{◌≡◌, [], drop}
use Rattle.filter_parse.specs.body.Postfix.{depths_of}
use Rattle.filter_parse.specs.body.Stack.{from_top}
use Rattle.filter_parse.proofs.depth.depth_of.Given as goal

abbrev pub invariant-loop-item : goal.invariant-loop-item
invariant-loop-item g l = depths_of (drop l.item-index l.items) (from_top l.depths) ≡ depths_of l.items []
