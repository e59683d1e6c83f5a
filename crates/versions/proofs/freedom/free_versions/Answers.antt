use Rattle.versions.specs.Table.{the_shape}
use Rattle.versions.proofs.LogLemmas.{IsFree-earlier, IsFree-of_row, IsFree-on}
use Rattle.versions.proofs.freedom.free_versions.Goals as goal

pub returns : goal.returns
returns c = record {
  free_stays_free = IsFree-on the_shape;
  free_below = IsFree-earlier the_shape;
  free_rows = IsFree-of_row the_shape;
}
