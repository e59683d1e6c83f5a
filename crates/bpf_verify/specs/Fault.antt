-- Which fault of a list of words is the first: of its length, else of the least place, else the missing return, else the
-- least load of a cell that is not stored before.
use Rattle.std.specs.Prelude.{◌≡◌, ◌<◌, ◌≤◌, List, length, ℕ}
use Rattle.bpf_verify.specs.declared.TheConstants.{MAX_INSTRUCTIONS}
use Rattle.bpf_verify.specs.declared.fault.Fault.{Fault}
use Rattle.bpf_verify.specs.declared.fault.Fault.TheVariants.{Ancillary, BadCell, BadOpcode, BadShift, Empty, JumpOutside, NoReturn, StrayField, TooLong, UnstoredCell, ZeroDivisor}
use Rattle.bpf_verify.specs.Path.{IsStoredBefore, IsUnstored}
use Rattle.bpf_verify.specs.Accepted.{EndsInReturn, HasFault, IsFaultlessBelow}

-- the length is good, and so are the words below n
pub record IsGoodBelow (program : List ℕ) (n : ℕ) : Type 0 where
  pub not_empty : 0 < length program
  pub not_too_long : length program ≤ MAX_INSTRUCTIONS
  pub faultless : IsFaultlessBelow program n

-- pc is the least place with a fault, and this is it
abbrev pub IsFirstAt : List ℕ → ℕ → Fault → Type 0
IsFirstAt program pc fault = IsGoodBelow program pc × HasFault program pc fault

-- the fault of the length, else of the least place, else the missing return, else the least load of a cell that some path
-- reaches without a store of it
abbrev pub IsFirstFault : List ℕ → Fault → Type 0
IsFirstFault program Empty = length program ≡ 0
IsFirstFault program TooLong = MAX_INSTRUCTIONS < length program
IsFirstFault program (BadOpcode pc) = IsFirstAt program pc (BadOpcode pc)
IsFirstFault program (StrayField pc) = IsFirstAt program pc (StrayField pc)
IsFirstFault program (ZeroDivisor pc) = IsFirstAt program pc (ZeroDivisor pc)
IsFirstFault program (BadShift pc) = IsFirstAt program pc (BadShift pc)
IsFirstFault program (BadCell pc) = IsFirstAt program pc (BadCell pc)
IsFirstFault program (JumpOutside pc) = IsFirstAt program pc (JumpOutside pc)
IsFirstFault program (Ancillary pc) = IsFirstAt program pc (Ancillary pc)
IsFirstFault program NoReturn = IsGoodBelow program (length program) × (¬ EndsInReturn program)
IsFirstFault program (UnstoredCell pc) =
    IsGoodBelow program (length program) × EndsInReturn program × IsUnstored program pc × ((q : ℕ) → q < pc → IsStoredBefore program q)
