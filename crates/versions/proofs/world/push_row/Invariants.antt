use Rattle.std.proofs.Common.{◌≡◌, ◌++◌, ◌<◌, get_or, length, take, ℕ}
use Rattle.config_image.specs.declared.TheConstants.{PAGE_LIMIT}
use Rattle.config_image.specs.Pooled.{parts, pooled_row}
use Rattle.versions.specs.World.{first_pages}
use Rattle.versions.proofs.world.push_row.Given as goal

abbrev pub invariant-loop-page : goal.invariant-loop-page
invariant-loop-page g l = (length l.pages ≡ PAGE_LIMIT) × ((k : ℕ) → k < l.page → get_or l.pages k 0 ≡ k)

abbrev pub invariant-loop-i : goal.invariant-loop-i
invariant-loop-i g l = l.words.items ≡ l.fn.words.items ++ take l.i (pooled_row l.config (first_pages (length (parts l.config))))
