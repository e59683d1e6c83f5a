use Rattle.std.proofs.Common.{◌≡◌, length}
use Rattle.filter_parse.specs.body.Parser.{reduced_operators}
use Rattle.filter_parse.specs.body.Stack.{from_top}
use Rattle.filter_parse.proofs.reduce.reduce_each_operator.Given as goal

abbrev pub invariant-loop-operator : goal.invariant-loop-operator
invariant-loop-operator g l =
    reduced_operators l.precedence (from_top l.stack) l.output.entries.items ≡ reduced_operators l.precedence (from_top l.initial.stack) l.initial.output.entries.items

abbrev pub decreases-loop-operator : goal.decreases-loop-operator
decreases-loop-operator g l = length (from_top l.stack)
