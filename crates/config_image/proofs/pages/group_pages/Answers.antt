use Rattle.std.proofs.Common.{rules}
use Rattle.config_image.proofs.pages.group_pages.Goals as goal

pub filters_pages-requires : goal.filters_pages-requires
filters_pages-requires g c = rw c.members.ensures.members c.requires.limited

pub returns-clause-limited : goal.returns-clause-limited
returns-clause-limited g c = search rules

pub returns-clause-pages : goal.returns-clause-pages
returns-clause-pages g c = search rules
