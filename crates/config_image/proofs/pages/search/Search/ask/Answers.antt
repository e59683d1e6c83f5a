use Rattle.std.proofs.Common.{rules}
use Rattle.config_image.proofs.pages.search.Search.ask.Goals as goal

pub returns-else-self-clause-asks_exactly : goal.returns-else-self-clause-asks_exactly
returns-else-self-clause-asks_exactly c = search rules

pub returns-then-self-clause-asked : goal.returns-then-self-clause-asked
returns-then-self-clause-asked c = search rules
