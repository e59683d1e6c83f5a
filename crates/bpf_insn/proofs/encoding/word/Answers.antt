use Rattle.std.proofs.Common.{rules}
use Rattle.bpf_insn.proofs.encoding.word.Goals as goal

pub returns : goal.returns
returns c = search rules
