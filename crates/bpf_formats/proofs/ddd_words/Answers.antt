use Rattle.std.proofs.Common.{rules}
use Rattle.bpf_formats.proofs.ddd_words.Goals as goal

pub returns-clause-fault : goal.returns-clause-fault
returns-clause-fault g c = search rules

pub returns-clause-reads : goal.returns-clause-reads
returns-clause-reads g c = search rules

pub returns-in_default-clause-fault : goal.returns-in_default-clause-fault
returns-in_default-clause-fault g c = search rules

pub returns-in_default-clause-reads : goal.returns-in_default-clause-reads
returns-in_default-clause-reads g c = search rules

pub returns-then-len-count-clause-fault : goal.returns-then-len-count-clause-fault
returns-then-len-count-clause-fault g c = search rules

pub returns-then-len-count-clause-reads : goal.returns-then-len-count-clause-reads
returns-then-len-count-clause-reads g c = search rules
