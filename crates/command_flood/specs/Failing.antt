-- How the command `flood` fails (docs/COMMANDS.md, "flood").
use Rattle.std.specs.Prelude.{◌≡◌, ◌≢◌, ◌⊎◌, List, Option, ℕ}
use Rattle.command_line.specs.declared.ending.Failure.{Failure}
use Rattle.command_line.specs.declared.ending.Failure.TheVariants.{BindFailed, NoAnswer, OutOfMemory, PollFailed, ReadFailed, RulesChanged, SpawnFailed, WriteFailed}
use Rattle.command_line.specs.Ending.{AppendsBeginning, line_of}
use Rattle.command_flood.specs.Flood.{BeginsFlood}

-- jobs have no results: a thread could not be started, or memory was refused
abbrev pub IsRunFailure : Failure → Type 0
IsRunFailure failure = (failure ≡ SpawnFailed) ⊎ (failure ≡ OutOfMemory)

-- `flood` failed so: a write failed, memory was refused, or a thread could not be started. Of the line of totals a beginning was written
-- if a write failed, and else nothing. A beginning of the failure's line was written to standard error
pub record FloodFails (workers datagrams : ℕ) (before after told_before told_after : Option (List ℕ)) (failure : Failure) : Type 0 where
  pub no_read : failure ≢ ReadFailed
  pub no_socket : (failure ≢ BindFailed) × (failure ≢ PollFailed)
  pub no_reply_awaited : failure ≢ NoAnswer
  pub no_rules_read : failure ≢ RulesChanged
  pub written : failure ≢ WriteFailed → after ≡ before
  pub begun : failure ≡ WriteFailed → BeginsFlood workers datagrams before after
  pub told : AppendsBeginning told_before told_after (line_of failure)

abbrev pub EndsInFloodFailure : (workers datagrams : ℕ) → (before after told_before told_after : Option (List ℕ)) → Type 0
EndsInFloodFailure workers datagrams before after told_before told_after =
    (failure : Failure) × FloodFails workers datagrams before after told_before told_after failure
