-- The effect of a replay: what it read, what it wrote, and which device failed (docs/COMMANDS.md, "replay").
use Rattle.std.specs.Prelude.{◌≡◌, ◌++◌, ◌⊎◌, Err, List, None, Ok, Option, Result, Some, [], suc, ℕ}
use Rattle.std.specs.Io.KnownBytes.{Appends, Consumes, IsAtEnd}
use Rattle.dispatch.specs.Memory.{MOST_FAILURES}
use Rattle.control.specs.declared.fault.ReplayFault.{ReplayFault}
use Rattle.control.specs.declared.fault.ReplayFault.TheVariants.{OutOfMemory, ReadFailed, WriteFailed}
use Rattle.control.specs.Script.{AreAnswered, BeginsRequest, IsScriptText, Standing}
use Rattle.control.specs.Streams.{InputValue, OutputValue}

-- the bytes up to a failed read, which made the failures so many; the rest is known unless no more failures can be counted
abbrev pub WasRead : ℕ → Option (List ℕ) → Option (List ℕ) → List ℕ → Type 0
WasRead failures None after bytes = Unit {0}
WasRead failures (Some coming) None bytes = failures ≡ MOST_FAILURES
WasRead failures (Some coming) (Some later) bytes = coming ≡ bytes ++ later

-- the bytes written up to a failed write, which made the failures so many; they are known unless no more failures can be counted
abbrev pub WasWritten : ℕ → Option (List ℕ) → Option (List ℕ) → List ℕ → Type 0
WasWritten failures None after bytes = Unit {0}
WasWritten failures (Some taken) None bytes = failures ≡ MOST_FAILURES
WasWritten failures (Some taken) (Some later) bytes = later ≡ taken ++ bytes

-- the input was read to its end, and the text of that script was written, and nothing else
pub record IsReplayed (input input' : InputValue) (output output' : OutputValue) : Type 0 where
  pub script : List ℕ
  pub text : List ℕ
  pub read : Consumes input.coming input'.coming script
  pub to_the_end : IsAtEnd input'.coming
  pub is_text : IsScriptText script text
  pub written : Appends output.taken output'.taken text

-- the replies to all requests whose ends were read were written, and nothing else; a part of one more may have been read
pub record AnsweredAllLines (input input' : InputValue) (output output' : OutputValue) : Type 0 where
  pub lines : List ℕ
  pub part : List ℕ
  pub text : List ℕ
  pub last : Standing
  pub read : WasRead input'.failures input.coming input'.coming (lines ++ part)
  pub is_part : BeginsRequest part
  pub answered : AreAnswered lines text last
  pub written : Appends output.taken output'.taken text

-- this is the text of requests that were read: of whole ones, or of all if the input is at its end
abbrev pub IsTextOfLines : InputValue → List ℕ → List ℕ → List ℕ → Type 0
IsTextOfLines input' lines rest text =
    ((last : Standing) × AreAnswered lines text last) ⊎ ((rest ≡ []) × IsAtEnd input'.coming × IsScriptText lines text)

-- a beginning of the replies to requests that were read was written, and nothing else
pub record WroteBeginning (input input' : InputValue) (output output' : OutputValue) : Type 0 where
  pub lines : List ℕ
  pub rest : List ℕ
  pub text : List ℕ
  pub told : List ℕ
  pub untold : List ℕ
  pub read : Consumes input.coming input'.coming (lines ++ rest)
  pub is_text : IsTextOfLines input' lines rest text
  pub beginning : text ≡ told ++ untold
  pub written : WasWritten output'.failures output.taken output'.taken told

-- the replies to some first requests that were read were written, and nothing else
pub record AnsweredFirstLines (input input' : InputValue) (output output' : OutputValue) : Type 0 where
  pub lines : List ℕ
  pub rest : List ℕ
  pub text : List ℕ
  pub last : Standing
  pub read : Consumes input.coming input'.coming (lines ++ rest)
  pub answered : AreAnswered lines text last
  pub written : Appends output.taken output'.taken text

-- each device failed once if the fault is its own, and else not
abbrev pub FailedBy : Result (Unit {0}) ReplayFault → InputValue → InputValue → OutputValue → OutputValue → Type 0
FailedBy (Ok done) input input' output output' = (input'.failures ≡ input.failures) × (output'.failures ≡ output.failures)
FailedBy (Err ReadFailed) input input' output output' = (input'.failures ≡ suc input.failures) × (output'.failures ≡ output.failures)
FailedBy (Err WriteFailed) input input' output output' = (input'.failures ≡ input.failures) × (output'.failures ≡ suc output.failures)
FailedBy (Err OutOfMemory) input input' output output' = (input'.failures ≡ input.failures) × (output'.failures ≡ output.failures)
