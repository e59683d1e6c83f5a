use Rattle.std.proofs.Common.{◌≡◌, take}
use Rattle.filter_parse.specs.Token.{capped, value_of}
use Rattle.filter_parse.proofs.number.value_of.Given as goal

abbrev pub invariant-loop-c : goal.invariant-loop-c
invariant-loop-c l = l.n ≡ capped (value_of l.base (take l.c-index l.digits))
