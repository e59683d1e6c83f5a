-- The state of an operator and its workers between the lines of a script: each worker is outside, and met the operator since the
-- last publication.
use Rattle.std.specs.Prelude.{◌≡◌, ◌<◌, ◌≤◌, List, Some, length, slice_get, suc, ℕ}
use Rattle.atomic_table.specs.Seated.{TableId}
use Rattle.versions.specs.declared.layout.TheConstants.{WORKERS}
use Rattle.versions.specs.Free.{IsFree, IsReplaced, IsScannedClear, number_after}
use Rattle.versions.specs.Table.{the_shape}
use Rattle.versions.specs.View.{BeginsWith, read_word_after}
use Rattle.read_section.specs.Operator.{OperatorValue}
use Rattle.read_section.specs.Worker.{WorkerValue}
use Rattle.control_line.specs.Agrees.{AgreesNow}
use Rattle.control.specs.Script.{Standing}

-- worker w of a table, whose read word is 0
pub record IsOutsideAt (table : TableId) (w : ℕ) (worker : WorkerValue) : Type 0 where
  pub table_is : worker.table ≡ table
  pub number : worker.view.number ≡ w
  pub read_word : read_word_after worker.view.log ≡ 0

-- all workers of a table, in their order, each outside
pub record AreOutside (table : TableId) (workers : List WorkerValue) : Type 0 where
  pub count : length workers ≡ WORKERS
  pub each : (w : ℕ) (worker : WorkerValue) → slice_get workers w ≡ Some worker → IsOutsideAt table w worker

-- the operator's version and what it reported are the script's, and its configuration agrees
pub record Stands (operator : OperatorValue) (now : Standing) : Type 0 where
  pub agrees : AgreesNow now.config operator.view
  pub version : now.version ≡ number_after operator.view.log
  pub published_length : length operator.view.published ≡ suc now.version
  pub rows_length : length operator.view.version_rows ≡ suc now.version
  pub reported : now.reported ≡ operator.reported
  pub limited : now.reported ≤ now.version

-- each worker has seen all that is published
abbrev pub HaveSeenAll : List WorkerValue → OperatorValue → Type 0
HaveSeenAll workers operator = (w : ℕ) (worker : WorkerValue) → slice_get workers w ≡ Some worker → worker.view.seen ≡ operator.view.published

-- each version that was replaced is free
abbrev pub AllFree : OperatorValue → Type 0
AllFree operator = (m : ℕ) → IsReplaced m operator.view.log → IsFree the_shape m operator.view.log

pub record IsReady (operator : OperatorValue) (workers : List WorkerValue) (now : Standing) : Type 0 where
  pub outside : AreOutside operator.table workers
  pub stands : Stands operator now
  pub seen_all : HaveSeenAll workers operator
  pub free : AllFree operator

-- the operator met the first k of these workers, which were outside, and nothing else was done
pub record MetFirst (k : ℕ) (before after : OperatorValue) (workers workers' : List WorkerValue) : Type 0 where
  pub outside : AreOutside after.table workers'
  pub table : after.table ≡ before.table
  pub published : after.view.published ≡ before.view.published
  pub version_rows : after.view.version_rows ≡ before.view.version_rows
  pub number : number_after after.view.log ≡ number_after before.view.log
  pub reported : after.reported ≡ before.reported
  pub cleared : (w m : ℕ) → w < k → IsReplaced m before.view.log → IsScannedClear w m after.view.log
  pub seen_all : (w : ℕ) (worker : WorkerValue) → w < k → slice_get workers' w ≡ Some worker → worker.view.seen ≡ before.view.published
  pub all_of_it : (w : ℕ) (worker : WorkerValue) → w < k → slice_get workers w ≡ Some worker → BeginsWith before.view.published worker.view.seen
  pub later : (w : ℕ) → k ≤ w → slice_get workers' w ≡ slice_get workers w
