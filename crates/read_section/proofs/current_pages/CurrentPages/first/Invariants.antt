use Rattle.std.proofs.Common.{◌≡◌, ◌≤◌}
use Rattle.std.specs.Prelude.{vec_capacity}
use Rattle.config_image.specs.declared.TheConstants.{PAGE_LIMIT}
use Rattle.versions.specs.World.{first_pages}
use Rattle.read_section.proofs.current_pages.CurrentPages.first.Given as goal

abbrev pub invariant-loop-page : goal.invariant-loop-page
invariant-loop-page l = (l.pages.items ≡ first_pages l.page) × (PAGE_LIMIT ≤ vec_capacity l.pages)
