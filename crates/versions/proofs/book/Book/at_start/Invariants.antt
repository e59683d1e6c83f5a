use Rattle.std.proofs.Common.{◌≡◌, ◌-◌, replicate}
use Rattle.std.specs.List.{range_with_len}
use Rattle.versions.specs.Book.{used_by}
use Rattle.versions.specs.Table.{the_shape}
use Rattle.versions.specs.World.{first_pages}
use Rattle.versions.proofs.book.Book.at_start.Given as goal

abbrev pub invariant-loop-page : goal.invariant-loop-page
invariant-loop-page g l = used_by 1 (range_with_len l.page (l.count - l.page)) l.last_use ≡ used_by 1 (first_pages l.count) (replicate the_shape.pages 0)
