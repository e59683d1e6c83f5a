use Rattle.std.proofs.Common.{rules}
use Rattle.command_line.proofs.ending.refuse_arguments.Goals as goal

pub returns-clause-no_memory : goal.returns-clause-no_memory
returns-clause-no_memory g c = search rules

pub returns-clause-not_text : goal.returns-clause-not_text
returns-clause-not_text g c = search rules

pub returns-then-eq-clause-no_memory : goal.returns-then-eq-clause-no_memory
returns-then-eq-clause-no_memory g c = search rules

pub returns-then-eq-clause-not_text : goal.returns-then-eq-clause-not_text
returns-then-eq-clause-not_text g c = search rules
