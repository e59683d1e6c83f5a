use Rattle.std.proofs.Common.{◌≡◌, length}
use Rattle.filter_parse.specs.body.Parser.{reduced_connectives}
use Rattle.filter_parse.specs.body.Stack.{from_top}
use Rattle.filter_parse.proofs.reduce.reduce_connectives.Given as goal

abbrev pub invariant-loop-stack : goal.invariant-loop-stack
invariant-loop-stack g l = reduced_connectives (from_top l.stack) l.output.entries.items ≡ reduced_connectives (from_top l.initial.stack) l.initial.output.entries.items

abbrev pub decreases-loop-stack : goal.decreases-loop-stack
decreases-loop-stack g l = length (from_top l.stack)
