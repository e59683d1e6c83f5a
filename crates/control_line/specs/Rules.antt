-- Rules files: which of their lines count, the configuration that they make, and why a file is refused (docs/COMMANDS.md,
-- "Rules files").
use Rattle.std.specs.Prelude.{◌==◌, ◌||◌, ◌-◌, ◌<◌, ◌≤◌, ◌∷◌, ◌++◌, Bool, List, None, Option, Some, [], if◌then◌else◌, length, nat_lt, suc, true, ℕ}
use Rattle.config_image.specs.Image.{Group}
use Rattle.filter_program.specs.Program.{IsProgramFor}
use Rattle.retire.specs.declared.fault.PublishFault.TheVariants.{TooBig}
use Rattle.versions.specs.declared.layout.TheConstants.{CHARGE_LIMIT}
use Rattle.control_line.specs.declared.TheConstants.{BLOCK_LIMIT, MOST_LINES}
use Rattle.control_line.specs.declared.reason.Reason.{Reason}
use Rattle.control_line.specs.declared.reason.Reason.TheVariants.{LineTooLong, Publishing}
use Rattle.control_line.specs.declared.rules_file.RulesFault.{RulesFault}
use Rattle.control_line.specs.declared.rules_file.RulesFault.TheVariants.{OutOfMemory, Refused}
use Rattle.control_line.specs.Agrees.{Agrees, Compiler, TextConfig}
use Rattle.control_line.specs.Answer.{IsFirstRefused, LeadBy, NumberedLine, charge_of_text}

-- the byte is the first one of the first line
abbrev pub grow_first : ℕ → List (List ℕ) → List (List ℕ)
grow_first byte [] = (byte ∷ []) ∷ []
grow_first byte (first ∷ rest) = (byte ∷ first) ∷ rest

-- LF, which is 10, ends a line; bytes after the last LF are a line too
abbrev pub lines_in : List ℕ → List (List ℕ)
lines_in [] = []
lines_in (byte ∷ rest) = if byte == 10 then [] ∷ lines_in rest else grow_first byte (lines_in rest)

-- the line with this number, from 1; no bytes if there is none
abbrev pub line_numbered : ℕ → List (List ℕ) → List ℕ
line_numbered number [] = []
line_numbered number (line ∷ rest) = if nat_lt 1 number then line_numbered (number - 1) rest else line

-- a line without the CR, which is 13, at its end
abbrev pub without_return : List ℕ → List ℕ
without_return [] = []
without_return (byte ∷ []) = if byte == 13 then [] else byte ∷ []
without_return (byte ∷ next ∷ rest) = byte ∷ without_return (next ∷ rest)

-- a space, a tab or a CR
abbrev pub is_blank : ℕ → Bool
is_blank byte = (byte == 32) || ((byte == 9) || (byte == 13))

-- a line without other bytes, or whose first other byte is `#`, which is 35
abbrev pub is_skipped : List ℕ → Bool
is_skipped [] = true
is_skipped (byte ∷ rest) = if is_blank byte then is_skipped rest else byte == 35

-- the rule in a line with this number, or none if the line is skipped
abbrev pub rule_of : ℕ → List ℕ → List NumberedLine
rule_of number line = if is_skipped line then [] else record { number = number; text = without_return line } ∷ []

-- the rules in lines, the first of which has this number
abbrev pub rules_from : ℕ → List (List ℕ) → List NumberedLine
rules_from number [] = []
rules_from number (line ∷ rest) = rule_of number line ++ rules_from (suc number) rest

-- the rules of a file, with their numbers among all its lines
abbrev pub rules_in : List ℕ → List NumberedLine
rules_in text = rules_from 1 (lines_in text)

-- a file may be so long
pub record IsShortFile (text : List ℕ) : Type 0 where
  pub bytes : length text ≤ BLOCK_LIMIT
  pub lines : length (rules_in text) ≤ MOST_LINES

-- the configuration that a file makes, beginning without groups
pub record MakesConfigBy (by : Compiler) (text : List ℕ) (config : TextConfig) : Type 0 where
  pub short : IsShortFile text
  pub lead : LeadBy by [] (rules_in text) config
  pub charge : charge_of_text config ≤ CHARGE_LIMIT

-- why a file is refused, and the line if it is a line's fault; the refusals come in this order
pub data RefusesFileBy (by : Compiler) (text : List ℕ) : Option ℕ → Reason → Type 0 where
  long : ¬ IsShortFile text → RefusesFileBy by text None LineTooLong
  bad_line : (number : ℕ) (why : Reason) → IsShortFile text → IsFirstRefused by [] (rules_in text) number why →
      RefusesFileBy by text (Some number) why
  too_big : (config : TextConfig) → IsShortFile text → LeadBy by [] (rules_in text) config →
      CHARGE_LIMIT < charge_of_text config → RefusesFileBy by text None (Publishing TooBig)

-- the file makes a configuration, and this is one of the operator's that agrees with it
abbrev pub IsConfigOf : List ℕ → List Group → Type 0
IsConfigOf text config = (rules : TextConfig) × MakesConfigBy IsProgramFor text rules × Agrees rules config

abbrev pub IsFaultOfFile : List ℕ → RulesFault → Type 0
IsFaultOfFile text (Refused line why) = RefusesFileBy IsProgramFor text line why
IsFaultOfFile text OutOfMemory = Unit {0}
