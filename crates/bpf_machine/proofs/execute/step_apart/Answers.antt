use Rattle.bpf_insn.proofs.WordLemmas.{instruction_of-sound}
use Rattle.bpf_machine.proofs.execute.step_apart.Goals as goal

pub from_instruction_word-insn-requires : goal.from_instruction_word-insn-requires
from_instruction_word-insn-requires c = (instruction_of-sound c.args.word c.requires.word.0 c.requires.word.1).0
