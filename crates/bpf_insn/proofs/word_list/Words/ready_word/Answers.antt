use Rattle.std.proofs.Common.{rules}
use Rattle.bpf_insn.proofs.word_list.Words.ready_word.Goals as goal

pub returns-clause-value : goal.returns-clause-value
returns-clause-value g c = search rules
