use Rattle.bpf_machine.proofs.RunLemmas.{means_by_first_word}
use Rattle.bpf_machine.proofs.meaning_by_first_word.Goals as goal

pub returns : goal.returns
returns c = means_by_first_word
