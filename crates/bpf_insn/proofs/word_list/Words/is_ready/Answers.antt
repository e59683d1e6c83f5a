use Rattle.std.proofs.Common.{rules}
use Rattle.bpf_insn.proofs.word_list.Words.is_ready.Goals as goal

pub returns : goal.returns
returns g c = search rules
