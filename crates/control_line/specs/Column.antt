-- The column of a line's fault, for people (docs/COMMANDS.md, "Rules files").
use Rattle.std.specs.Prelude.{◌≡◌, ◌+◌, ◌-◌, ◌∷◌, List, Some, [], if◌then◌else◌, length, min, nat_lt, suc, unwrap_or, ℕ}
use Rattle.bpf_asm.specs.Code.{asm_code}
use Rattle.bpf_asm.specs.Line.{ends_line}
use Rattle.filter_parse.specs.Code.{parse_code}
use Rattle.filter_program.specs.Program.{Source, assembly, expression}
use Rattle.filter_program.specs.declared.fault.TextFault.TheVariants.{Assembly, Expression}
use Rattle.member_group.specs.declared.command.Command.{Command}
use Rattle.control_line.specs.declared.reason.Reason.{Reason}
use Rattle.control_line.specs.declared.reason.Reason.TheVariants.{Text}
use Rattle.control_line.specs.Answer.{program_in}
use Rattle.control_line.specs.Request.{Spells, change}

abbrev pub bytes_in : Source → List ℕ
bytes_in (assembly text) = text
bytes_in (expression text) = text

-- the line asks for a change with a program, and this is the text of it
pub record HasProgramText (line text : List ℕ) : Type 0 where
  pub command : Command Source
  pub source : Source
  pub spells : Spells line (change command)
  pub program : program_in command ≡ Some source
  pub text_is : text ≡ bytes_in source

-- the place in an assembly text at which a line of it begins; its lines are counted from 1
abbrev pub place_of_line : ℕ → List ℕ → ℕ
place_of_line number [] = 0
place_of_line number (byte ∷ rest) =
    if nat_lt 1 number then suc (place_of_line (if ends_line byte then number - 1 else number) rest) else 0

-- The place in the text for which it is refused: that of the fault of an expression, and the beginning of the line at fault of an
-- assembly text. Other refusals are for the whole of it.
abbrev pub place_in : List ℕ → Reason → ℕ
place_in text (Text (Expression fault)) = unwrap_or (parse_code fault).place 0
place_in text (Text (Assembly fault)) = place_of_line (unwrap_or (asm_code fault).place 0) text
place_in text reason = 0

-- The byte of the line, from 1, at that place of the text that it ends with. The place after its last byte is the last one.
abbrev pub column_in : List ℕ → List ℕ → Reason → ℕ
column_in line text reason = suc (min ((length line - length text) + place_in text reason) (length line))
