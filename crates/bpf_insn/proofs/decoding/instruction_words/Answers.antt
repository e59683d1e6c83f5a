use Rattle.bpf_insn.proofs.WordLemmas.{instruction_of-exact}
use Rattle.bpf_insn.proofs.decoding.instruction_words.Goals as goal

pub returns : goal.returns
returns c = instruction_of-exact
