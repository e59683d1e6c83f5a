use Rattle.std.proofs.Common.{rules}
use Rattle.versions.proofs.layout.limits_as_numbers.Goals as goal

pub returns-clause-charge : goal.returns-clause-charge
returns-clause-charge c = search rules

pub returns-clause-rows : goal.returns-clause-rows
returns-clause-rows c = search rules

pub returns-clause-pages : goal.returns-clause-pages
returns-clause-pages c = search rules

pub returns-clause-pool_begin : goal.returns-clause-pool_begin
returns-clause-pool_begin c = search rules

pub returns-clause-table_words : goal.returns-clause-table_words
returns-clause-table_words c = search rules

pub returns-clause-workers : goal.returns-clause-workers
returns-clause-workers c = search rules

pub returns-clause-last_number : goal.returns-clause-last_number
returns-clause-last_number c = search rules
