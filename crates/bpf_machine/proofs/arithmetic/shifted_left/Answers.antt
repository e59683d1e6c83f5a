use Rattle.std.proofs.Common.{rules}
use Rattle.bpf_machine.proofs.arithmetic.shifted_left.Goals as goal

pub returns-then-count-lt32 : goal.returns-then-count-lt32
returns-then-count-lt32 c = search rules

pub returns-else-count-lt32 : goal.returns-else-count-lt32
returns-else-count-lt32 c = search rules
