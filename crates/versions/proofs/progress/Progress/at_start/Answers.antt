use Rattle.std.proofs.Common.{refl}
use Rattle.versions.specs.Table.{the_shape}
use Rattle.versions.proofs.progress.Progress.at_start.Goals as goal

pub returns : goal.returns
unfolding the_shape
returns g c = record { stages = refl; book = c.in_ok-book.ensures.at_start }
