use Rattle.bpf_insn.proofs.WordLemmas.{instruction_of-word_of}
use Rattle.bpf_insn.proofs.instruction.Insn.to_word.Goals as goal

pub returns-clause-word_round_trip : goal.returns-clause-word_round_trip
returns-clause-word_round_trip c = rw c.fitting_word.ensures.word (instruction_of-word_of c.args.self c.fitting_word.ensures.fits)
