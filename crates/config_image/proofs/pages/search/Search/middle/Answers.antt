use Rattle.std.proofs.Common.{rules}
use Rattle.config_image.proofs.pages.search.Search.middle.Goals as goal

pub returns : goal.returns
returns c = search rules
