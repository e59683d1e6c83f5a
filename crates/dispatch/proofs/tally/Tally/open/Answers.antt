use Rattle.std.proofs.Common.{rules}
use Rattle.dispatch.proofs.tally.Tally.open.Goals as goal

pub returns-clause-counters : goal.returns-clause-counters
returns-clause-counters c = search rules

pub returns-clause-tally : goal.returns-clause-tally
returns-clause-tally c = search rules

pub returns-in_default-clause-counters : goal.returns-in_default-clause-counters
returns-in_default-clause-counters c = search rules

pub returns-in_default-clause-tally : goal.returns-in_default-clause-tally
returns-in_default-clause-tally c = search rules

pub of_words-requires : goal.of_words-requires
of_words-requires c = search rules
