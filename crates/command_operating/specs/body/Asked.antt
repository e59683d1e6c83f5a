-- The switch that a command asks.
use Rattle.std.specs.Prelude.{◌≡◌, ◌≢◌, ◌⊎◌, Option, Some}
use Rattle.clap.specs.Words.{Text}
use Rattle.command_line.specs.ControlAddress.{SpellsControlAddress}
use Rattle.command_line.specs.declared.control_address.ControlAddress.{ControlAddress}
use Rattle.command_line.specs.declared.ending.Failure.{Failure}
use Rattle.command_line.specs.declared.ending.Failure.TheVariants.{BindFailed, OutOfMemory, ReadFailed, SpawnFailed}
use Rattle.command_operating.specs.Printing.{IsPath}
use Rattle.control_rules.specs.Asked.{failure_of}
use Rattle.control_rules.specs.declared.ask_failure.AskFailure.{AskFailure}
use Rattle.control_rules.specs.declared.ask_failure.AskFailure.TheVariants as asked

-- the text that is given is this one, of this address
pub record IsAsked (control : Option Text) (text : Text) (address : ControlAddress) : Type 0 where
  pub given : control ≡ Some text
  pub is_address : SpellsControlAddress text address

-- asking by a client that was made may fail so
abbrev pub IsUnasked : Failure → Type 0
IsUnasked failure = (failure ≢ ReadFailed) × (failure ≢ SpawnFailed) × (failure ≢ BindFailed)

-- the failure is passed on as it is; one that cannot happen is passed on as refused memory
abbrev pub PassesOn : (AskFailure → Type 0) → AskFailure → Failure → Type 0
PassesOn CannotBe failure given = (given ≡ failure_of failure) ⊎ (CannotBe failure × (given ≡ OutOfMemory))

-- asking at an address reads no file, and binds a socket only over UDP
abbrev pub CannotFailAt : ControlAddress → AskFailure → Type 0
CannotFailAt address failure = (failure ≡ asked.ReadFailed) ⊎ ((failure ≡ asked.BindFailed) × IsPath address)

-- a client that was made reads no file and binds no socket
abbrev pub CannotFailOfClient : AskFailure → Type 0
CannotFailOfClient failure = (failure ≡ asked.ReadFailed) ⊎ (failure ≡ asked.BindFailed)
