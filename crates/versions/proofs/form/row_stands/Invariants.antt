use Rattle.std.proofs.Common.{◌≡◌, ◌<◌, get_or, ℕ}
use Rattle.config_image.specs.Pooled.{pooled_row}
use Rattle.versions.proofs.form.row_stands.Given as goal

abbrev pub invariant-loop-i : goal.invariant-loop-i
invariant-loop-i g l = (k : ℕ) → k < l.i → get_or l.row_words k 0 ≡ get_or (pooled_row l.config l.pages) k 0
