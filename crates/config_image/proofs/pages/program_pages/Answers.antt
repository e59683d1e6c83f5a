use Rattle.std.proofs.Common.{rules}
use Rattle.config_image.proofs.pages.program_pages.Goals as goal

pub returns-clause-limited : goal.returns-clause-limited
returns-clause-limited g c = search rules

pub returns-clause-pages : goal.returns-clause-pages
returns-clause-pages g c = search rules
