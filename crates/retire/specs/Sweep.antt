-- The steps of a sweep: it scans the read word of each worker once, and then reports.
use Rattle.std.specs.Prelude.{◌≡◌, ◌+◌, ℕ}
use Rattle.read_section.specs.Operator.{IsReport, OperatorValue}
use Rattle.retire.specs.Publish.{ScansEach}

-- the versions reported are those that these scans and the earlier ones show free, and that were not reported before
pub record Sweeps (before after : OperatorValue) (first count : ℕ) : Type 0 where
  pub scanned : OperatorValue
  pub each : ScansEach before scanned
  pub report : IsReport scanned.view before.reported first count
  pub reported : after ≡ record scanned { reported = first + count }
