-- What a command that asks a switch had printed if it fails, and why it may fail (docs/COMMANDS.md, "Failures").
use Rattle.std.specs.Prelude.{◌≡◌, ◌≢◌, List, Option, ℕ}
use Rattle.std.specs.Io.KnownBytes.{Appends}
use Rattle.clap.specs.Words.{Text}
use Rattle.command_line.specs.ControlAddress.{SpellsControlAddress}
use Rattle.command_line.specs.declared.control_address.ControlAddress.{ControlAddress}
use Rattle.command_line.specs.declared.control_address.ControlAddress.TheVariants.{Udp, Unix}
use Rattle.command_line.specs.declared.ending.Failure.{Failure}
use Rattle.command_line.specs.declared.ending.Failure.TheVariants.{BindFailed, ReadFailed, SpawnFailed, WriteFailed}
use Rattle.command_operating.specs.Reported.{IsTold}

-- a beginning of what would have been written was written, possibly none of it or the whole, and nothing else
pub record Begins (Writes : Option (List ℕ) → Option (List ℕ) → Type 0) (before after : Option (List ℕ)) : Type 0 where
  pub printed : List ℕ
  pub left : List ℕ
  pub whole : Option (List ℕ)
  pub begun : Appends before after printed
  pub rest : Appends after whole left
  pub writes : Writes before whole

-- a command failed so: a write failed, and a beginning of what it writes was written; or it has another reason, and nothing was written
pub record PrintFails (Writes : Option (List ℕ) → Option (List ℕ) → Type 0) (MayFail : Failure → Type 0) (control : Option Text)
    (before after told_before told_after : Option (List ℕ)) (failure : Failure) : Type 0 where
  pub reason : failure ≢ WriteFailed → MayFail failure
  pub unwritten : failure ≢ WriteFailed → after ≡ before
  pub begun : failure ≡ WriteFailed → Begins Writes before after
  pub told : IsTold control failure told_before told_after

abbrev pub EndsInPrintFailure :
    (Option (List ℕ) → Option (List ℕ) → Type 0) → (Failure → Type 0) → Option Text → (before after told_before told_after : Option (List ℕ)) → Type 0
EndsInPrintFailure Writes MayFail control before after told_before told_after =
    (failure : Failure) × PrintFails Writes MayFail control before after told_before told_after failure

-- the address is a path
abbrev pub IsPath : ControlAddress → Type 0
IsPath (Udp endpoint) = ⊥
IsPath (Unix path) = Unit {0}

-- a command that asks the switch at this address may fail so: it starts no thread, binds a socket only over UDP, and fails to read only
-- if it reads a file
pub record IsAskFault (ReadsFile : Type 0) (address : ControlAddress) (failure : Failure) : Type 0 where
  pub no_thread : failure ≢ SpawnFailed
  pub over_udp : failure ≡ BindFailed → IsPath address → ⊥
  pub of_file : failure ≡ ReadFailed → ReadsFile

-- at the address of this text
abbrev pub MayFailAsking : Type 0 → Text → Failure → Type 0
MayFailAsking ReadsFile control failure = (address : ControlAddress) × SpellsControlAddress control address × IsAskFault ReadsFile address failure
