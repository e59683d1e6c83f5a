use Rattle.std.proofs.Common.{arith, rules}
use Rattle.std.proofs.lemmas.Grind.{common_steps}
use Rattle.bpf_verify.proofs.check_program.Goals as goal

pub returns-then-len-eq0-clause-accepted : goal.returns-then-len-eq0-clause-accepted
returns-then-len-eq0-clause-accepted g c = search rules

pub returns-then-len-eq0-clause-first_fault : goal.returns-then-len-eq0-clause-first_fault
returns-then-len-eq0-clause-first_fault g c = search rules

pub returns-then-len-gt-MAX_INSTRUCTIONS-clause-accepted : goal.returns-then-len-gt-MAX_INSTRUCTIONS-clause-accepted
returns-then-len-gt-MAX_INSTRUCTIONS-clause-accepted g c = search rules

pub returns-then-len-gt-MAX_INSTRUCTIONS-clause-first_fault : goal.returns-then-len-gt-MAX_INSTRUCTIONS-clause-first_fault
returns-then-len-gt-MAX_INSTRUCTIONS-clause-first_fault g c = grind (arith, common_steps)

pub returns-then-len-le-SHORT-clause-accepted : goal.returns-then-len-le-SHORT-clause-accepted
returns-then-len-le-SHORT-clause-accepted g c = search rules

pub returns-then-len-le-SHORT-clause-first_fault : goal.returns-then-len-le-SHORT-clause-first_fault
returns-then-len-le-SHORT-clause-first_fault g c = search rules

pub returns-then-len-le-MIDDLE-clause-accepted : goal.returns-then-len-le-MIDDLE-clause-accepted
returns-then-len-le-MIDDLE-clause-accepted g c = search rules

pub returns-then-len-le-MIDDLE-clause-first_fault : goal.returns-then-len-le-MIDDLE-clause-first_fault
returns-then-len-le-MIDDLE-clause-first_fault g c = search rules

pub returns-else-len-le-MIDDLE-clause-accepted : goal.returns-else-len-le-MIDDLE-clause-accepted
returns-else-len-le-MIDDLE-clause-accepted g c = search rules

pub returns-else-len-le-MIDDLE-clause-first_fault : goal.returns-else-len-le-MIDDLE-clause-first_fault
returns-else-len-le-MIDDLE-clause-first_fault g c = search rules
