use Rattle.std.proofs.Common.{◌*◌, ◌+◌, length, reverse}
use Rattle.filter_parse.proofs.build.+arithmetic.Given as goal

abbrev pub decreases-arithmetic : goal.decreases-arithmetic
decreases-arithmetic g l = 2 * length (reverse l.parts.now.now)

abbrev pub decreases-operand : goal.decreases-operand
decreases-operand g l = 2 * length (reverse l.parts.now.now) + 1
