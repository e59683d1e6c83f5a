use Rattle.std.proofs.Common.{rules}
use Rattle.filter_compile.proofs.non_ipv4.primitive_non_ipv4.Goals as goal

pub returns-in-AtMost : goal.returns-in-AtMost
returns-in-AtMost c = search rules
