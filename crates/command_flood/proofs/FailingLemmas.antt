-- How `flood` fails.
use Rattle.std.proofs.Common.{◌≡◌, ◌≢◌, List, Option, ap, inl, inr, ℕ}
use Rattle.command_line.specs.declared.ending.Failure.{Failure}
use Rattle.command_line.specs.declared.ending.Failure.TheVariants.{BindFailed, NoAnswer, PollFailed, ReadFailed, RulesChanged, WriteFailed}
use Rattle.command_line.specs.Ending.{AppendsBeginning, line_of}
use Rattle.command_flood.specs.Failing.{FloodFails, IsRunFailure}
use Rattle.command_flood.specs.Flood.{BeginsFlood}

-- jobs that failed did not fail to write
pub never_unwritten : (failure : Failure) → IsRunFailure failure → failure ≡ WriteFailed → ⊥
never_unwritten failure (inl is) same = cc
never_unwritten failure (inr is) same = cc

-- what `flood_over` says of its failure, and the line that was reported
pub flood_fails : {X : Type 0} (contents : X → Option (List ℕ)) (workers datagrams : ℕ) (old new : X) (told_before told_after : Option (List ℕ)) (failure : Failure)
    → (failure ≢ WriteFailed → new ≡ old) → (failure ≡ WriteFailed → BeginsFlood workers datagrams (contents old) (contents new))
    → (failure ≢ ReadFailed) × (failure ≢ NoAnswer) × (failure ≢ RulesChanged) → (failure ≢ BindFailed) × (failure ≢ PollFailed)
    → AppendsBeginning told_before told_after (line_of failure)
    → FloodFails workers datagrams (contents old) (contents new) told_before told_after failure
flood_fails contents workers datagrams old new told_before told_after failure kept begun no_input no_socket told = record {
  no_read = no_input.0;
  no_socket = no_socket;
  no_reply_awaited = no_input.1;
  no_rules_read = no_input.2;
  written = λ other. ap contents (kept other);
  begun = begun;
  told = told;
}
