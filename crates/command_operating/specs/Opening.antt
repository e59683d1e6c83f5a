-- The rules that a switch begins with, and why it does not begin (docs/COMMANDS.md, "Rules files").
use Rattle.std.specs.Prelude.{◌≡◌, ◌≢◌, ◌⊎◌, ◌++◌, List, None, Option, Some, [], codes, decimal, ℕ}
use Rattle.std.specs.Io.KnownBytes.{Appends}
use Rattle.clap.specs.Words.{Text}
use Rattle.config_image.specs.Image.{Group}
use Rattle.command_line.specs.Ending.{AppendsBeginning, line_of}
use Rattle.command_line.specs.Input.{IsInput}
use Rattle.command_line.specs.declared.ending.Failure.{Failure}
use Rattle.command_line.specs.declared.ending.Failure.TheVariants.{OutOfMemory, ReadFailed, WriteFailed}
use Rattle.control_line.specs.Reason.{refusal_text}
use Rattle.control_line.specs.Rules.{IsConfigOf, IsFaultOfFile}
use Rattle.control_line.specs.declared.reason.Reason.{Reason}
use Rattle.control_line.specs.declared.rules_file.RulesFault.TheVariants as fault
use Rattle.command_operating.specs.Files.{KnownFiles}
use Rattle.command_operating.specs.Printing.{Begins}

-- the line that refuses a rules file, for one of its lines or as a whole
abbrev pub of_line : Option ℕ → List ℕ
of_line None = []
of_line (Some number) = codes " line " ++ decimal number

abbrev pub file_refusal_text : Option ℕ → Reason → List ℕ
file_refusal_text line why = (refusal_text why ++ of_line line) ++ codes "\n"

-- the text of an input is a rules file that makes this configuration
pub record IsMadeFrom (input : Option (List ℕ)) (config : List Group) : Type 0 where
  pub text : List ℕ
  pub is_input : IsInput input text
  pub made : IsConfigOf text config

-- the text of an input is refused as a rules file, and the line that says so was written
pub record RefusesRules (input before after : Option (List ℕ)) : Type 0 where
  pub text : List ℕ
  pub line : Option ℕ
  pub why : Reason
  pub is_input : IsInput input text
  pub refused : IsFaultOfFile text (fault.Refused line why)
  pub written : Appends before after (file_refusal_text line why)

-- the text of an input makes no configuration, since a read, a write or memory failed; if a write failed, a beginning of the line that
-- refuses the text was written, and else nothing
pub record FailsUnread (input before after told_before told_after : Option (List ℕ)) (failure : Failure) : Type 0 where
  pub cause : (failure ≡ ReadFailed) ⊎ ((failure ≡ OutOfMemory) ⊎ (failure ≡ WriteFailed))
  pub unwritten : failure ≢ WriteFailed → after ≡ before
  pub begun : failure ≡ WriteFailed → Begins (RefusesRules input) before after
  pub told : AppendsBeginning told_before told_after (line_of failure)

abbrev pub EndsUnread : (input before after told_before told_after : Option (List ℕ)) → Type 0
EndsUnread input before after told_before told_after = (failure : Failure) × FailsUnread input before after told_before told_after failure

-- the configuration that a switch begins with: that of the rules file of this name, or the one without groups
abbrev pub IsOpening : KnownFiles → Option Text → List Group → Type 0
IsOpening files None config = config ≡ []
IsOpening files (Some file) config = IsMadeFrom (files file) config

-- the rules file of this name is refused, and the line that says so was written
abbrev pub RefusesOpening : KnownFiles → Option Text → (before after : Option (List ℕ)) → Type 0
RefusesOpening files None before after = ⊥
RefusesOpening files (Some file) before after = RefusesRules (files file) before after

-- the rules file of this name makes no configuration, for another reason
abbrev pub FailsOpening : KnownFiles → Option Text → (before after told_before told_after : Option (List ℕ)) → Failure → Type 0
FailsOpening files None before after told_before told_after failure = ⊥
FailsOpening files (Some file) before after told_before told_after failure = FailsUnread (files file) before after told_before told_after failure

abbrev pub EndsUnopened : KnownFiles → Option Text → (before after told_before told_after : Option (List ℕ)) → Type 0
EndsUnopened files file before after told_before told_after =
    (failure : Failure) × FailsOpening files file before after told_before told_after failure
