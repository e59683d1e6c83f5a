use Rattle.std.proofs.Common.{◌≡◌, ◌+◌, ◌-◌, ◌<◌, get_or, ℕ}
use Rattle.config_image.specs.PageTable.{page_of}
use Rattle.versions.specs.body.Names.{begin_in}
use Rattle.versions.proofs.form.is_part_word.Given as goal

abbrev pub invariant-loop-index : goal.invariant-loop-index
invariant-loop-index l = (i : ℕ) → i < l.index → page_of (get_or l.names i 0) ≡ l.page → l.k < begin_in l.names l.end (i + 1) - begin_in l.names l.end i → ⊥
