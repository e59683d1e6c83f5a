use Rattle.std.proofs.Common.{◌≡◌, ◌+◌, drop, map, set}
use Rattle.config_image.specs.PageTable.{page_of}
use Rattle.versions.specs.Book.{used_by}
use Rattle.versions.proofs.book.Book.count_version.Given as goal

abbrev pub invariant-loop-name : goal.invariant-loop-name
invariant-loop-name g l = (l.self.number ≡ l.fn.self.number + 1) × (l.self.last ≡ set l.fn.self.last l.row (l.fn.self.number + 2)) × (l.self.cleared ≡ l.fn.self.cleared) × (l.self.free ≡ l.fn.self.free)
    × (used_by (l.fn.self.number + 2) (drop l.name-index (map page_of l.names)) l.self.last_use ≡ used_by (l.fn.self.number + 2) (map page_of l.names) l.fn.self.last_use)
