use Rattle.std.proofs.Common.{arith, ◌<◌}
use Rattle.versions.specs.Table.{the_shape}
use Rattle.versions.proofs.BookLemmas.{free_below}
use Rattle.versions.proofs.ShapeLemmas.{workers_is}
use Rattle.versions.proofs.book.Book.free_versions.Goals as goal

pub returns : goal.returns
returns g c = record {
  free_below = λ view book m. let some_worker : 0 < the_shape.workers = omega (arith, workers_is) in
      free_below the_shape view c.args.self.now book c.args.self.now.free some_worker book.free m;
}
