use Rattle.std.proofs.Common.{rules}
use Rattle.filter_compile.proofs.non_ipv4.+non_ipv4.Goals as goal

pub returns-in-Not : goal.returns-in-Not
returns-in-Not g height c = search rules

pub returns-in-Some-false : goal.returns-in-Some-false
returns-in-Some-false g height c = search rules
