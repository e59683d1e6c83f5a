use Rattle.std.proofs.Common.{◌≡◌, ◌<◌, get_or, length, ℕ}
use Rattle.config_image.specs.declared.TheConstants.{PAGE_LIMIT}
use Rattle.config_image.specs.PageTable.{page_of}
use Rattle.versions.specs.declared.layout.TheConstants.{PAGES}
use Rattle.versions.proofs.form.pages_of_names.Given as goal

abbrev pub invariant-loop-index : goal.invariant-loop-index
invariant-loop-index l = (length l.pages ≡ PAGE_LIMIT) × ((i : ℕ) → i < l.index → (get_or l.pages i 0 ≡ page_of (get_or l.names i 0)) × (page_of (get_or l.names i 0) < PAGES))
