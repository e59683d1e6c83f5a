use Rattle.std.proofs.Common.{rules}
use Rattle.read_section.proofs.operator.zeros_begin.Goals as goal

pub returns-then-word-ne0-clause-zeros : goal.returns-then-word-ne0-clause-zeros
returns-then-word-ne0-clause-zeros c = search rules

pub returns-then-word-ne0-clause-within : goal.returns-then-word-ne0-clause-within
returns-then-word-ne0-clause-within c = search rules

pub returns-then-place-from-clause-zeros : goal.returns-then-place-from-clause-zeros
returns-then-place-from-clause-zeros c = search rules

pub returns-then-place-from-clause-within : goal.returns-then-place-from-clause-within
returns-then-place-from-clause-within c = search rules

pub returns-clause-zeros : goal.returns-clause-zeros
returns-clause-zeros c = search rules

pub returns-clause-within : goal.returns-clause-within
returns-clause-within c = search rules
