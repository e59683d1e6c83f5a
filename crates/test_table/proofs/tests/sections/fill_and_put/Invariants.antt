use Rattle.std.proofs.Common.{ℕ, ◌≡◌, ◌<◌, List, [], slice_index}
use Rattle.config_image.specs.Image.{Group}
use Rattle.config_image.specs.Pooled.{pooled_row}
use Rattle.versions.specs.Free.{IsFreeRow, number_after}
use Rattle.versions.specs.Table.{the_shape}
use Rattle.read_section.specs.Operator.{OperatorValue}
use Rattle.read_section.proofs.FilledLemmas.{word_at}
use Rattle.test_table.proofs.tests.sections.fill_and_put.Given as goal

-- the row is filled up to a place, and nothing else changed that the publication asks for
pub record FilledSoFar (before now : OperatorValue) (r : ℕ) (config : List Group) (place : ℕ) : Type 0 where
  pub free : IsFreeRow the_shape now.view r
  pub number : number_after now.view.log ≡ number_after before.view.log
  pub published : now.view.published ≡ before.view.published
  pub table : now.table ≡ before.table
  pub front : (i : ℕ) → i < place → word_at now r i ≡ slice_index (pooled_row config []) i

abbrev pub invariant-loop-place : goal.invariant-loop-place
invariant-loop-place l = FilledSoFar l.fn.operator l.operator l.row l.config l.place
