use Rattle.config_image.proofs.PartsLemmas.{parts_of-cut}
use Rattle.config_image.proofs.PooledLemmas.{parts_stand}
use Rattle.config_image.proofs.parts_stand.Goals as goal

pub returns-clause-cut : goal.returns-clause-cut
returns-clause-cut c = parts_of-cut

pub returns-clause-in_image : goal.returns-clause-in_image
returns-clause-in_image c = parts_stand
