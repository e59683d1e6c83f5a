use Rattle.control_rules.proofs.MeaningLemmas.{nothing_else}
use Rattle.control_rules.proofs.rules_make_their_configuration.Goals as goal

pub returns-clause-nothing_else : goal.returns-clause-nothing_else
returns-clause-nothing_else c = nothing_else c.one_request.ensures.line c.one_value.ensures.one_value
