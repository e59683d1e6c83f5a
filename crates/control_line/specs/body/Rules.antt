-- The results of the steps of reading a rules file.
use Rattle.std.specs.Prelude.{◌≡◌, ◌<◌, ◌∷◌, List, None, Option, Some, [], false, length, true, ℕ}
use Rattle.config_image.specs.Image.{Group}
use Rattle.filter_program.specs.Program.{IsProgramFor}
use Rattle.control_line.specs.declared.program.LineFault.TheVariants as line_fault
use Rattle.control_line.specs.declared.reason.Reason.{Reason}
use Rattle.control_line.specs.declared.rules_file.RulesFault.{RulesFault}
use Rattle.control_line.specs.declared.rules_file.RulesFault.TheVariants.{OutOfMemory, Refused}
use Rattle.control_line.specs.Agrees.{Agrees, TextConfig}
use Rattle.control_line.specs.Answer.{IsFirstRefused, LeadBy}
use Rattle.control_line.specs.Rules.{is_skipped, lines_in, rules_in, without_return}
use Rattle.control_line.specs.body.Blocks.{IsDone, IsLineFault}

-- the text begins with this line, and goes on with the rest
pub record IsFirstLine (text line rest : List ℕ) : Type 0 where
  pub lines : lines_in text ≡ line ∷ lines_in rest
  pub shorter : length rest < length text

-- a line that is skipped leaves the configuration as it is; another one is done, without the CR at its end
pub record IsLineDone (config : List Group) (line : List ℕ) (next : List Group) : Type 0 where
  pub skipped : is_skipped line ≡ true → next ≡ config
  pub done : is_skipped line ≡ false → IsDone config (without_return line) next

-- a line that is not skipped is refused, with its number
abbrev pub IsLineFaultAt : List Group → List ℕ → ℕ → RulesFault → Type 0
IsLineFaultAt config line number (Refused at why) =
    (at ≡ Some number) × (is_skipped line ≡ false) × IsLineFault config (without_return line) (line_fault.Refused why)
IsLineFaultAt config line number OutOfMemory = Unit {0}

-- the lines of a file are done, one after the other
abbrev pub AreRulesDone : List ℕ → List Group → Type 0
AreRulesDone text config = (rules : TextConfig) × LeadBy IsProgramFor [] (rules_in text) rules × Agrees rules config

-- the first of its lines that is refused
abbrev pub IsFirstFaultAt : List ℕ → Option ℕ → Reason → Type 0
IsFirstFaultAt text None why = ⊥
IsFirstFaultAt text (Some number) why = IsFirstRefused IsProgramFor [] (rules_in text) number why

abbrev pub IsFileFaultAt : List ℕ → RulesFault → Type 0
IsFileFaultAt text (Refused at why) = IsFirstFaultAt text at why
IsFileFaultAt text OutOfMemory = Unit {0}
