use Rattle.config_image.proofs.OnePartLemmas.{one_part}
use Rattle.config_image.proofs.one_part_holds.Goals as goal

pub returns : goal.returns
returns c = one_part
