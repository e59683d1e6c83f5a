use Rattle.std.proofs.Common.{rules}
use Rattle.bpf_formats.proofs.hex_words.Goals as goal

pub returns-clause-fault : goal.returns-clause-fault
returns-clause-fault g c = search rules

pub returns-clause-reads : goal.returns-clause-reads
returns-clause-reads g c = search rules
