-- Which device made a command fail: how often reads of its input failed, and writes and flushes of its output.
use Rattle.std.specs.Prelude.{◌≡◌, ◌+◌, Err, List, Ok, Option, Result, min, suc, ℕ}
use Rattle.std.specs.Borrow.{GName}
use Rattle.dispatch.specs.Memory.{MOST_FAILURES}
use Rattle.control.specs.Streams.{InputValue, told_after}
use Rattle.command_line.specs.declared.ending.Failure.{Failure}
use Rattle.command_line.specs.declared.ending.Failure.TheVariants.{ReadFailed, WriteFailed}

-- the failures of a device: how many, and the name of the borrow by which it is used, which no call changes
pub record FailuresValue : Type 0 where
  pub count : ℕ
  pub borrow : GName

-- one failure more; more than the most are not counted
abbrev pub one_more : FailuresValue → FailuresValue
one_more failures = record { count = min (failures.count + 1) MOST_FAILURES; borrow = failures.borrow }

-- a call failed exactly if the count of failures grew so
abbrev pub CountsUpTo : {A E : Type 0} → Result A E → FailuresValue → FailuresValue → Type 0
CountsUpTo (Ok answer) before after = after ≡ before
CountsUpTo (Err fault) before after = after ≡ one_more before

-- one read failed if the failure is that of a read, and else none
abbrev pub InputFails : {A : Type 0} → Result A Failure → ℕ → ℕ → Type 0
InputFails (Ok answer) before after = after ≡ before
InputFails (Err ReadFailed) before after = after ≡ suc before
InputFails (Err failure) before after = after ≡ before

-- one write or flush failed if the failure is that of a write, and else none
abbrev pub OutputFails : {A : Type 0} → Result A Failure → FailuresValue → FailuresValue → Type 0
OutputFails (Ok answer) before after = after ≡ before
OutputFails (Err WriteFailed) before after = after ≡ one_more before
OutputFails (Err failure) before after = after ≡ before

-- a command fails to read only if one read failed, and fails to write only if one write or flush failed, and else none failed; `read`
-- and `read'` are the failures of its input before and after it, `written` and `written'` those of its output
abbrev pub HasCause : {A : Type 0} → Result A Failure → ℕ → ℕ → FailuresValue → FailuresValue → Type 0
HasCause (Ok answer) read read' written written' = (read' ≡ read) × (written' ≡ written)
HasCause (Err ReadFailed) read read' written written' = (read' ≡ suc read) × (written' ≡ written)
HasCause (Err WriteFailed) read read' written written' = (read' ≡ read) × (written' ≡ one_more written)
HasCause (Err failure) read read' written written' = (read' ≡ read) × (written' ≡ written)

-- the bytes of an input that are known after a call: none, if its failures are as many as can be counted
abbrev pub known_after : InputValue → InputValue → Option (List ℕ)
known_after input input' = told_after input'.failures input.coming
