use Rattle.std.proofs.Common.{◌*◌, ◌+◌, length, reverse}
use Rattle.filter_parse.proofs.build.+build.Given as goal

abbrev pub decreases-build : goal.decreases-build
decreases-build g l = 3 * length (reverse l.parts.now.now)

abbrev pub decreases-part : goal.decreases-part
decreases-part g l = 3 * length (reverse l.parts.now.now) + 2

abbrev pub decreases-joined : goal.decreases-joined
decreases-joined g l = 3 * length (reverse l.parts.now.now) + 1
