use Rattle.std.proofs.Common.{◌<◌, get_or, ℕ}
use Rattle.config_image.specs.PageTable.{page_of}
use Rattle.versions.proofs.FormLemmas.{StandsIn}
use Rattle.versions.proofs.form.parts_stand.Given as goal

abbrev pub invariant-loop-index : goal.invariant-loop-index
invariant-loop-index g l = (k : ℕ) → k < l.index → StandsIn l.config l.names l.words l.len k (page_of (get_or l.names k 0))
