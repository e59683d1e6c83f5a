use Rattle.std.proofs.Common.{ℕ, ◌+◌, ◌-◌, ◌≤◌, ◌≡◌, ◌<◌}
use Rattle.config_image.specs.declared.TheConstants.{ROW_WORDS}
use Rattle.config_image.specs.Pooled.{pooled_row}
use Rattle.read_section.proofs.FilledLemmas.{word_at}
use Rattle.retire.specs.body.Filling.{FillsRow, HoldsFront}
use Rattle.retire.proofs.row.fill_row.Given as goal

-- from `end` backwards the words are zeros
abbrev pub invariant-loop-place : goal.invariant-loop-place
invariant-loop-place l = FillsRow l.fn.operator l.operator l.row l.config l.pages × HoldsFront l.operator l.row (pooled_row l.config l.pages) l.len
    × ((i : ℕ) → l.end ≤ i + (l.place - l.len) → i < ROW_WORDS → word_at l.operator l.row i ≡ 0)
