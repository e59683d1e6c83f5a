-- An input and an output as contracts see them: how often it failed, its bytes if they are known, and how many bytes an input can
-- still return.
use Rattle.std.specs.Prelude.{◌==◌, ◌≡◌, ◌<◌, if◌then◌else◌, List, MatchResult, None, Option, Result, Some, length, take, ℕ}
use Rattle.std.specs.Borrow.{GName}
use Rattle.std.specs.Io.KnownBytes.{Appends, Consumes, IsAtEnd}
use Rattle.dispatch.specs.Memory.{MOST_FAILURES}

-- an input; `coming` are the bytes that it has still to return, and it returns no more than `left` of them
pub record InputValue : Type 0 where
  pub failures : ℕ
  pub coming : Option (List ℕ)
  pub left : ℕ

-- an output; `taken` is what it was written
pub record OutputValue : Type 0 where
  pub failures : ℕ
  pub taken : Option (List ℕ)

-- known bytes stay as they were after a call that failed; they are no longer known only once the failures are as many as can be
-- counted
abbrev pub KeepsOrForgets : ℕ → Option (List ℕ) → Option (List ℕ) → Type 0
KeepsOrForgets failures None after = Unit {0}
KeepsOrForgets failures (Some bytes) None = failures ≡ MOST_FAILURES
KeepsOrForgets failures (Some bytes) (Some later) = later ≡ bytes

-- a read returns the next bytes, and none of them only at their end; a failed one returns none, and makes the failures so many
abbrev pub GivesNext : {E : Type 0} → ℕ → Option (List ℕ) → Option (List ℕ) → Result ℕ E → List ℕ → Type 0
GivesNext failures before after result buffer =
    MatchResult result
    (λ size. Consumes before after (take size buffer) × (size ≡ 0 → 0 < length buffer → IsAtEnd after))
    (λ failed. KeepsOrForgets failures before after)

-- a write takes a beginning of the bytes; a failed one takes none, and makes the failures so many
abbrev pub TakesFront : {E : Type 0} → ℕ → Option (List ℕ) → Option (List ℕ) → Result ℕ E → List ℕ → Type 0
TakesFront failures before after result bytes =
    MatchResult result
    (λ size. Appends before after (take size bytes))
    (λ failed. KeepsOrForgets failures before after)

-- the known bytes of a device that failed so often: none, once its failures are as many as can be counted
abbrev pub told_after : ℕ → Option (List ℕ) → Option (List ℕ)
told_after failures known = if failures == MOST_FAILURES then None else known

-- an input that has so many bytes left
abbrev pub input_over : Option (List ℕ) → ℕ → ℕ → InputValue
input_over remaining left failures = record { failures = failures; coming = told_after failures remaining; left = left }

-- an output that was written so
abbrev pub output_over : Option (List ℕ) → ℕ → OutputValue
output_over contents failures = record { failures = failures; taken = told_after failures contents }

-- an output over a writer that is borrowed under this name
pub record ToWriteValue : Type 0 where
  pub borrow : GName
  pub output : OutputValue
