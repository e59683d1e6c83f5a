use Rattle.std.proofs.Common.{rules}
use Rattle.read_section.proofs.section.Section.leave.Goals as goal

pub returns-clause-left_by_one_step : goal.returns-clause-left_by_one_step
returns-clause-left_by_one_step c = search rules

pub returns-clause-ends_in_fetches : goal.returns-clause-ends_in_fetches
returns-clause-ends_in_fetches c = search rules
