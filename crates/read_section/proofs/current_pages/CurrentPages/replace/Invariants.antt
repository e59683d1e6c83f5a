use Rattle.std.proofs.Common.{◌≡◌, ◌≤◌, map, take}
use Rattle.std.specs.Prelude.{vec_capacity}
use Rattle.config_image.specs.declared.TheConstants.{PAGE_LIMIT}
use Rattle.config_image.specs.PageTable.{page_of}
use Rattle.read_section.proofs.current_pages.CurrentPages.replace.Given as goal

abbrev pub invariant-loop-name : goal.invariant-loop-name
invariant-loop-name l = (l.self-inside.pages.items ≡ map page_of (take l.name-index l.names)) × (PAGE_LIMIT ≤ vec_capacity l.self-inside.pages)
