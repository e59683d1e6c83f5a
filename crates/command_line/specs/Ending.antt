-- Exit statuses, and the lines of failures (docs/COMMANDS.md, "Statuses").
use Rattle.std.specs.Prelude.{◌≡◌, ◌++◌, List, Option, codes, ℕ}
use Rattle.std.specs.Io.KnownBytes.{Appends}
use Rattle.command_line.specs.declared.ending.Failure.{Failure}
use Rattle.command_line.specs.declared.ending.Failure.TheVariants.{BindFailed, NoAnswer, OutOfMemory, PollFailed, ReadFailed, RulesChanged, SpawnFailed, WriteFailed}
use Rattle.command_line.specs.declared.ending.Status.{Status}
use Rattle.command_line.specs.declared.ending.Status.TheVariants.{Done, Failed, Misused, Refused}

abbrev pub code_of : Status → ℕ
code_of Done = 0
code_of Refused = 1
code_of Misused = 2
code_of Failed = 3

abbrev pub IsStatus : ℕ → Type 0
IsStatus code = (status : Status) × (code ≡ code_of status)

abbrev pub line_of : Failure → List ℕ
line_of ReadFailed = codes "failed E1\n"
line_of WriteFailed = codes "failed E2\n"
line_of OutOfMemory = codes "failed E3\n"
line_of SpawnFailed = codes "failed J1\n"
line_of BindFailed = codes "failed S1\n"
line_of PollFailed = codes "failed S2\n"
line_of NoAnswer = codes "failed E4\n"
line_of RulesChanged = codes "failed E5\n"

-- a beginning of the text was appended, possibly none of it or the whole
abbrev pub AppendsBeginning : Option (List ℕ) → Option (List ℕ) → List ℕ → Type 0
AppendsBeginning before after text = (told left : List ℕ) × Appends before after told × (text ≡ told ++ left)
