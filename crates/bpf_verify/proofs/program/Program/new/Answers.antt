use Rattle.std.proofs.Common.{arith, rules}
use Rattle.std.proofs.lemmas.Grind.{common_steps}
use Rattle.bpf_verify.proofs.FaultLemmas.{first_fault_whole}
use Rattle.bpf_verify.proofs.program.Program.new.Goals as goal

pub returns-in-Err-clause-program_fault : goal.returns-in-Err-clause-program_fault
returns-in-Err-clause-program_fault g c = first_fault_whole c.args.words.items _ _ c.as_slice-list.ensures.value c.in-Err.ensures.first_fault

pub returns-in-Ok-clause-program_exact : goal.returns-in-Ok-clause-program_exact
returns-in-Ok-clause-program_exact g c = grind (arith, common_steps)

pub returns-in-Ok-clause-words_taken : goal.returns-in-Ok-clause-words_taken
returns-in-Ok-clause-words_taken g c = search rules

pub returns-in-Ok-clause-charge_is_length : goal.returns-in-Ok-clause-charge_is_length
returns-in-Ok-clause-charge_is_length g c = search rules

pub returns-in-Ok-clause-program_fault : goal.returns-in-Ok-clause-program_fault
returns-in-Ok-clause-program_fault g c = search rules

pub returns-in-Ok-clause-words_back : goal.returns-in-Ok-clause-words_back
returns-in-Ok-clause-words_back g c = search rules

pub returns-in-Err-clause-program_exact : goal.returns-in-Err-clause-program_exact
returns-in-Err-clause-program_exact g c = grind (arith, common_steps)

pub returns-in-Err-clause-words_taken : goal.returns-in-Err-clause-words_taken
returns-in-Err-clause-words_taken g c = search rules

pub returns-in-Err-clause-charge_is_length : goal.returns-in-Err-clause-charge_is_length
returns-in-Err-clause-charge_is_length g c = search rules

pub returns-in-Err-clause-words_back : goal.returns-in-Err-clause-words_back
returns-in-Err-clause-words_back g c = search rules
