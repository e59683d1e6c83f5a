use Rattle.std.proofs.Common.{◌≡◌, ◌+◌, ◌-◌, ◌*◌, ◌<◌, ◌≤◌, get_or, ℕ}
use Rattle.config_image.specs.declared.TheConstants.{PAGE_WORDS}
use Rattle.config_image.specs.Image.{image}
use Rattle.versions.specs.declared.layout.TheConstants.{POOL_BEGIN}
use Rattle.versions.proofs.form.part_stands.Given as goal

abbrev pub invariant-loop-i : goal.invariant-loop-i
invariant-loop-i g l = (k : ℕ) → l.begin ≤ k → k < l.i → get_or l.words (POOL_BEGIN + l.page * PAGE_WORDS + (k - l.begin)) 0 ≡ get_or (image l.config) k 0
