use Rattle.std.proofs.Common.{rules}
use Rattle.filter_facts.proofs.known.Known.join.Goals as goal

pub returns-else-self-clause-excluded : goal.returns-else-self-clause-excluded
returns-else-self-clause-excluded c = search rules

pub returns-else-self-clause-first_fragment : goal.returns-else-self-clause-first_fragment
returns-else-self-clause-first_fragment c = search rules

pub returns-else-self-clause-header_in_x : goal.returns-else-self-clause-header_in_x
returns-else-self-clause-header_in_x c = search rules

pub returns-else-self-clause-ip : goal.returns-else-self-clause-ip
returns-else-self-clause-ip c = search rules

pub returns-else-self-clause-of_other : goal.returns-else-self-clause-of_other
returns-else-self-clause-of_other c = search rules

pub returns-else-self-clause-of_self : goal.returns-else-self-clause-of_self
returns-else-self-clause-of_self c = search rules

pub returns-else-self-clause-protocol : goal.returns-else-self-clause-protocol
returns-else-self-clause-protocol c = search rules

pub returns-then-self-clause-excluded : goal.returns-then-self-clause-excluded
returns-then-self-clause-excluded c = search rules

pub returns-then-self-clause-first_fragment : goal.returns-then-self-clause-first_fragment
returns-then-self-clause-first_fragment c = search rules

pub returns-then-self-clause-header_in_x : goal.returns-then-self-clause-header_in_x
returns-then-self-clause-header_in_x c = search rules

pub returns-then-self-clause-ip : goal.returns-then-self-clause-ip
returns-then-self-clause-ip c = search rules

pub returns-then-self-clause-of_other : goal.returns-then-self-clause-of_other
returns-then-self-clause-of_other c = search rules

pub returns-then-self-clause-of_self : goal.returns-then-self-clause-of_self
returns-then-self-clause-of_self c = search rules

pub returns-then-self-clause-protocol : goal.returns-then-self-clause-protocol
returns-then-self-clause-protocol c = search rules

pub returns-then-self-clause-in_a : goal.returns-then-self-clause-in_a
returns-then-self-clause-in_a c = search rules

pub returns-else-self-clause-in_a : goal.returns-else-self-clause-in_a
returns-else-self-clause-in_a c = search rules
