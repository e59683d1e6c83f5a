-- The results of a block's steps: lines, and the configurations that they make.
use Rattle.std.specs.Prelude.{◌≡◌, ◌++◌, ◌∷◌, Err, List, Ok, Option, Result, Some, [], ℕ}
use Rattle.std.specs.List.{All}
use Rattle.ipv4_fields.specs.Cut.{Lacks}
use Rattle.config_image.specs.Image.{Group}
use Rattle.filter_program.specs.Program.{IsProgramFor}
use Rattle.control_line.specs.declared.block.BlockFault.{BlockFault}
use Rattle.control_line.specs.declared.program.LineFault.{LineFault}
use Rattle.control_line.specs.declared.program.LineFault.TheVariants.{OutOfMemory, Refused}
use Rattle.control_line.specs.declared.reply.LineAnswer.{LineAnswer}
use Rattle.control_line.specs.declared.reply.LineAnswer.TheVariants.{LineRefused}
use Rattle.control_line.specs.declared.head.Start.{Start}
use Rattle.control_line.specs.declared.head.Start.TheVariants.{Current, Empty}
use Rattle.versions.specs.declared.view.OperatorView.{OperatorView}
use Rattle.read_section.specs.Operator.{IsCurrent}
use Rattle.control_line.specs.Agrees.{Agrees, TextConfig}
use Rattle.control_line.specs.Answer.{IsDoneBy, IsFirstRefused, LeadBy, RefusesLineBy, numbered}
use Rattle.control_line.specs.Block.{EndsLine, after_line_feeds}

-- the text is these lines, each after an LF
pub record AreLines (text : List ℕ) (lines : List (List ℕ)) : Type 0 where
  pub are_lines : All (Lacks 10) lines
  pub whole : text ≡ after_line_feeds lines

-- the text begins with an LF and this line, and goes on with the rest
pub record IsNextLine (text line rest : List ℕ) : Type 0 where
  pub whole : text ≡ 10 ∷ (line ++ rest)
  pub lacks : Lacks 10 line
  pub ends_line : EndsLine rest

-- a line is done, or refused, for each configuration that agrees with the operator's
abbrev pub IsDone : List Group → List ℕ → List Group → Type 0
IsDone config line next =
    (text : TextConfig) → Agrees text config → (after : TextConfig) × IsDoneBy IsProgramFor text line after × Agrees after next

abbrev pub IsLineFault : List Group → List ℕ → LineFault → Type 0
IsLineFault config line (Refused why) = (text : TextConfig) → Agrees text config → RefusesLineBy IsProgramFor text line why
IsLineFault config line OutOfMemory = Unit {0}

-- and so are all lines of a block, the first of which has number 1
abbrev pub AreDone : List Group → List (List ℕ) → List Group → Type 0
AreDone config lines next =
    (text : TextConfig) → Agrees text config → (last : TextConfig) × LeadBy IsProgramFor text (numbered 1 lines) last × Agrees last next

abbrev pub IsFaultAt : List Group → List (List ℕ) → ℕ → LineFault → Type 0
IsFaultAt config lines number (Refused why) =
    (text : TextConfig) → Agrees text config → IsFirstRefused IsProgramFor text (numbered 1 lines) number why
IsFaultAt config lines number OutOfMemory = Unit {0}

abbrev pub IsFirstFault : List Group → List (List ℕ) → BlockFault → Type 0
IsFirstFault config lines fault = IsFaultAt config lines fault.line fault.fault

-- another version than the current one is wanted
abbrev pub IsOther : Option ℕ → ℕ → Type 0
IsOther wanted current = (version : ℕ) × (wanted ≡ Some version) × ¬ (version ≡ current)

-- the operator's configuration that a block changes
abbrev pub IsStart : Start → OperatorView (List Group) → List Group → Type 0
IsStart Current view real = IsCurrent view real
IsStart Empty view real = real ≡ []

-- the reply to a fault of a line
abbrev pub reply_to_line : ℕ → LineFault → Result LineAnswer LineFault
reply_to_line number (Refused why) = Ok (LineRefused number why)
reply_to_line number OutOfMemory = Err OutOfMemory

abbrev pub reply_to_fault : BlockFault → Result LineAnswer LineFault
reply_to_fault fault = reply_to_line fault.line fault.fault
