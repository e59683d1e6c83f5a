-- How reading the counters of a switch fails.
use Rattle.std.specs.Prelude.{◌≡◌, List, ℕ}
use Rattle.control_client.specs.Exchange.{Exchange}
use Rattle.control_rules.specs.Failing.{StopsAsking}
use Rattle.control_rules.specs.History.{ClientValue}
use Rattle.control_rules.specs.declared.ask_failure.AskFailure.{AskFailure}
use Rattle.control_rules.specs.declared.ask_failure.AskFailure.TheVariants.{PollFailed}
use Rattle.control_counters.specs.Reading.{IsNamed}
use Rattle.control_counters.specs.Watching.{IsWatchLine, Watches}

-- a line failed so, or memory was refused; or the time could not be read after exchanges of which this is true, and no line failed
pub data FailsWatching (IsSuch : List Exchange → Type 0) (failure : AskFailure) (before after : ClientValue) : Type 0 where
  asking_stopped : StopsAsking IsWatchLine failure before after → FailsWatching IsSuch failure before after
  no_time : failure ≡ PollFailed → Watches before after (λ history told. IsSuch told) → FailsWatching IsSuch failure before after

-- the time is read only after a version was shown
abbrev pub FailsCounting : AskFailure → ClientValue → ClientValue → Type 0
FailsCounting failure before after = FailsWatching (λ told. (version : ℕ) × IsNamed told version) failure before after
