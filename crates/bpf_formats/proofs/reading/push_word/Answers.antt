use Rattle.std.proofs.Common.{arith, rules}
use Rattle.std.proofs.lemmas.Grind.{common_steps}
use Rattle.bpf_formats.proofs.reading.push_word.Goals as goal

pub returns-clause-fault : goal.returns-clause-fault
returns-clause-fault g c = search rules

pub returns-clause-word : goal.returns-clause-word
returns-clause-word g c = search rules

pub returns-in_default-clause-fault : goal.returns-in_default-clause-fault
returns-in_default-clause-fault g c = search rules

pub returns-in_default-clause-word : goal.returns-in_default-clause-word
returns-in_default-clause-word g c = search rules

pub returns-then-is_empty-clause-fault : goal.returns-then-is_empty-clause-fault
returns-then-is_empty-clause-fault g c = search rules

pub returns-then-is_empty-clause-word : goal.returns-then-is_empty-clause-word
returns-then-is_empty-clause-word g c = grind (arith, common_steps)
