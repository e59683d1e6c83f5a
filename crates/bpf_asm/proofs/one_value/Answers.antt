use Rattle.bpf_asm.proofs.AssemblyLemmas as lemmas
use Rattle.bpf_asm.proofs.one_value.Goals as goal

pub returns-clause-one_value : goal.returns-clause-one_value
returns-clause-one_value c = lemmas.one_value

pub returns-clause-one_fault : goal.returns-clause-one_fault
returns-clause-one_fault c = lemmas.one_fault

pub returns-clause-not_both : goal.returns-clause-not_both
returns-clause-not_both c = lemmas.not_both
