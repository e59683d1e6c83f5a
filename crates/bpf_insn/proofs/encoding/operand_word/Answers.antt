use Rattle.std.proofs.Common.{rules}
use Rattle.bpf_insn.proofs.encoding.operand_word.Goals as goal

pub returns-in-K : goal.returns-in-K
returns-in-K c = search rules

pub returns-in-X : goal.returns-in-X
returns-in-X c = search rules
