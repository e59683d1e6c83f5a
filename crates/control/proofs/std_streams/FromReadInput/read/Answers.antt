use Rattle.std.proofs.Common.{arith, rules}
use Rattle.std.proofs.lemmas.Grind.{common_steps}
use Rattle.control.proofs.std_streams.FromReadInput.read.Goals as goal

pub returns-in-Err-clause-bounded : goal.returns-in-Err-clause-bounded
returns-in-Err-clause-bounded g c = search rules

pub returns-in-Err-clause-device_failed : goal.returns-in-Err-clause-device_failed
returns-in-Err-clause-device_failed g c = search rules

pub returns-in-Err-clause-gives_next : goal.returns-in-Err-clause-gives_next
returns-in-Err-clause-gives_next g c = search rules

pub returns-in-Err-clause-within : goal.returns-in-Err-clause-within
returns-in-Err-clause-within g c = search rules

pub returns-in-Ok-clause-bounded : goal.returns-in-Ok-clause-bounded
returns-in-Ok-clause-bounded g c = search rules

pub returns-in-Ok-clause-device_failed : goal.returns-in-Ok-clause-device_failed
returns-in-Ok-clause-device_failed g c = search rules

pub returns-in-Ok-clause-gives_next : goal.returns-in-Ok-clause-gives_next
returns-in-Ok-clause-gives_next g c = grind (arith, common_steps)

pub returns-in-Ok-clause-within : goal.returns-in-Ok-clause-within
returns-in-Ok-clause-within g c = search rules

pub returns-then-self-clause-bounded : goal.returns-then-self-clause-bounded
returns-then-self-clause-bounded g c = search rules

pub returns-then-self-clause-device_failed : goal.returns-then-self-clause-device_failed
returns-then-self-clause-device_failed g c = search rules

pub returns-then-self-clause-gives_next : goal.returns-then-self-clause-gives_next
returns-then-self-clause-gives_next g c = search rules

pub returns-then-self-clause-within : goal.returns-then-self-clause-within
returns-then-self-clause-within g c = search rules
