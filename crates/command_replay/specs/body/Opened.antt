-- The failures of a destination after some more.
use Rattle.std.specs.Prelude.{suc, zero, ℕ}
use Rattle.command_streams.specs.Failures.{FailuresValue, one_more}

-- so many failures more, as the destination counts them
abbrev pub failures_after : ℕ → FailuresValue → FailuresValue
failures_after zero before = before
failures_after (suc more) before = one_more (failures_after more before)
