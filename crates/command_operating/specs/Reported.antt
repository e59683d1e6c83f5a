-- The standard error of commands that ask a switch, if they fail (docs/COMMANDS.md, "tell").
use Rattle.std.specs.Prelude.{◌≡◌, List, Option, Some, ℕ}
use Rattle.clap.specs.Words.{Text}
use Rattle.command_line.specs.ControlAddress.{unix_text}
use Rattle.command_line.specs.Ending.{AppendsBeginning, line_of}
use Rattle.command_line.specs.declared.ending.Failure.{Failure}
use Rattle.command_line.specs.declared.ending.Failure.TheVariants.{NoAnswer}
use Rattle.control_client.specs.Trouble.{IsTroubleLine}
use Rattle.control_client.specs.declared.trouble.Trouble.{Trouble}

-- the line of a failure was appended; if control is at a path and no reply came, what happened to the connection may come first. If a
-- write fails, a beginning of either
pub data IsTold (control : Option Text) (failure : Failure) (before after : Option (List ℕ)) : Type 0 where
  told_alone : AppendsBeginning before after (line_of failure) → IsTold control failure before after
  told_after_trouble : (path : List ℕ) → control ≡ Some (unix_text path) → failure ≡ NoAnswer → (why : Trouble) (line : List ℕ) →
      IsTroubleLine (unix_text path) why line → (between : Option (List ℕ)) → AppendsBeginning before between line →
      AppendsBeginning between after (line_of failure) → IsTold control failure before after
