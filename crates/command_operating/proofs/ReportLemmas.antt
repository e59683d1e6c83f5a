-- What people are shown of a connection that failed.
use Rattle.std.proofs.Common.{◌≡◌, ◌++◌, List, Option, Some, [], ap, codes, refl, subst, ℕ}
use Rattle.std.proofs.KnownBytes.{Appends-nil}
use Rattle.clap.specs.Words.{Text}
use Rattle.command_line.specs.ControlAddress.{SpellsControlAddress}
use Rattle.command_line.specs.Ending.{AppendsBeginning, line_of}
use Rattle.command_line.specs.declared.control_address.ControlAddress.{ControlAddress}
use Rattle.command_line.specs.declared.control_address.ControlAddress.TheVariants.{Udp, Unix}
use Rattle.command_line.specs.declared.ending.Failure.{Failure}
use Rattle.command_line.specs.declared.ending.Failure.TheVariants.{NoAnswer}
use Rattle.command_operating.specs.Printing.{IsPath}
use Rattle.command_operating.specs.Reported.{IsTold, told_after_trouble}
use Rattle.control_client.specs.Trouble.{IsTroubleLine}
use Rattle.control_client.specs.declared.trouble.Trouble.{Trouble}
use Rattle.control_client.specs.declared.trouble.Trouble.TheVariants.{Closed, Endless, LongPath, Unconnected}

-- nothing of a line
none_of : (line : List ℕ) (before : Option (List ℕ)) → AppendsBeginning before before line
none_of line before = ([], line, Appends-nil before, refl)

-- a line that was not shown
pub none_shown : (address : List ℕ) (why : Trouble) (before : Option (List ℕ)) → (line : List ℕ) × IsTroubleLine address why line × AppendsBeginning before before line
none_shown address LongPath before =
    let line = codes "cannot connect to " ++ (address ++ codes ": the path has more than 107 bytes\n") in (line, refl, none_of line before)
none_shown address (Unconnected code kind) before =
    let line = codes "cannot connect to " ++ (address ++ (codes ": " ++ ([] ++ codes "\n"))) in (line, ([], refl), none_of line before)
none_shown address Closed before = let line = address ++ codes " closed the connection before its reply\n" in (line, refl, none_of line before)
none_shown address Endless before = let line = address ++ codes " sent a reply that does not end\n" in (line, refl, none_of line before)

-- what happened to the connection to a path was shown first
pub told_of_path : (control : Text) (address : ControlAddress) (failure : Failure) (why : Trouble) (line : List ℕ) (before between after : Option (List ℕ))
    → SpellsControlAddress control address → IsPath address → failure ≡ NoAnswer → IsTroubleLine control why line → AppendsBeginning before between line
    → AppendsBeginning between after (line_of failure) → IsTold (Some control) failure before after
told_of_path control (Udp endpoint) failure why line before between after spelled is no_answer is_line first then = absurd is
told_of_path control (Unix path) failure why line before between after spelled is no_answer is_line first then =
    told_after_trouble path.now (ap (λ (t : Text). Some t) spelled.1) no_answer why line (subst (λ (t : Text). IsTroubleLine t why line) spelled.1 is_line) between first then
