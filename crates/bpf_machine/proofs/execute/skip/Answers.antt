use Rattle.std.proofs.Common.{rules}
use Rattle.bpf_machine.proofs.execute.skip.Goals as goal

pub returns-then-passed : goal.returns-then-passed
returns-then-passed c = search rules

pub returns-else-passed : goal.returns-else-passed
returns-else-passed c = search rules
