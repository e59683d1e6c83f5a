use Rattle.std.proofs.Common.{rules}
use Rattle.config_image.proofs.limits_as_numbers.Goals as goal

pub returns-clause-pages : goal.returns-clause-pages
returns-clause-pages c = search rules

pub returns-clause-reads : goal.returns-clause-reads
returns-clause-reads c = search rules
