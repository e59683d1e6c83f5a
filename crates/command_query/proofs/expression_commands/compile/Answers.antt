use Rattle.std.proofs.Common.{rules}
use Rattle.command_query.proofs.expression_commands.compile.Goals as goal

pub returns-clause-answer : goal.returns-clause-answer
returns-clause-answer c = search rules

pub returns-clause-refused : goal.returns-clause-refused
returns-clause-refused c = search rules

pub returns-in-Assembly-clause-answer : goal.returns-in-Assembly-clause-answer
returns-in-Assembly-clause-answer c = search rules

pub returns-in-Assembly-clause-refused : goal.returns-in-Assembly-clause-refused
returns-in-Assembly-clause-refused c = search rules

pub returns-in-Dd-clause-answer : goal.returns-in-Dd-clause-answer
returns-in-Dd-clause-answer c = search rules

pub returns-in-Dd-clause-refused : goal.returns-in-Dd-clause-refused
returns-in-Dd-clause-refused c = search rules

pub returns-in-Ddd-clause-answer : goal.returns-in-Ddd-clause-answer
returns-in-Ddd-clause-answer c = search rules

pub returns-in-Ddd-clause-refused : goal.returns-in-Ddd-clause-refused
returns-in-Ddd-clause-refused c = search rules
