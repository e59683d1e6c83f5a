-- How a command ended, by the failures of its input and its output.
use Rattle.std.specs.Prelude.{◌≡◌, Err, ℕ}
use Rattle.command_line.specs.declared.ending.Failure.{Failure}
use Rattle.command_line.specs.declared.ending.Failure.TheVariants.{WriteFailed}
use Rattle.command_line.specs.declared.ending.Status.{Status}
use Rattle.command_line.specs.declared.ending.Status.TheVariants.{Failed}
use Rattle.command_streams.specs.Failures.{FailuresValue, HasCause, one_more}

-- one write or flush failed if this is the failure of a write, and else none
abbrev pub CountsFailure : Failure → FailuresValue → FailuresValue → Type 0
CountsFailure WriteFailed before after = after ≡ one_more before
CountsFailure failure before after = after ≡ before

-- a command that did not fail lost no write or flush; one that failed lost one if it reported the failure of a write, and else none
abbrev pub EndsByCause : (Failure → Type 0) → Status → FailuresValue → FailuresValue → Type 0
EndsByCause Reports Failed before after = (failure : Failure) × Reports failure × CountsFailure failure before after
EndsByCause Reports status before after = after ≡ before

-- a command that did not fail lost no read, write or flush; one that failed reported the failure that one of them was, or one that none
-- was; `read` and `read'` are the failures of its input before and after it, `written` and `written'` those of its output
abbrev pub EndsByOneCause : (Failure → Type 0) → Status → ℕ → ℕ → FailuresValue → FailuresValue → Type 0
EndsByOneCause Reports Failed read read' written written' =
    (failure : Failure) × Reports failure × HasCause {A = Status} (Err failure) read read' written written'
EndsByOneCause Reports status read read' written written' = (read' ≡ read) × (written' ≡ written)
