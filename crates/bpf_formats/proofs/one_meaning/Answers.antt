use Rattle.bpf_formats.proofs.MeaningLemmas.{ddd_meaning, hex_meaning}
use Rattle.bpf_formats.proofs.one_meaning.Goals as goal

pub returns-clause-ddd : goal.returns-clause-ddd
returns-clause-ddd c = ddd_meaning

pub returns-clause-hex : goal.returns-clause-hex
returns-clause-hex c = hex_meaning
