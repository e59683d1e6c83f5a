-- The results of the steps of reading a line.
use Rattle.std.specs.Prelude.{◌≢◌, ◌∷◌, List, MatchOption, None, Option, Some, [], codes, ℕ}
use Rattle.ipv4_fields.specs.Cut.{Lacks}
use Rattle.member_group.specs.Over.{command_over}
use Rattle.member_group.specs.declared.command.Command.{Command}
use Rattle.filter_program.specs.Program.{Source, assembly, expression}
use Rattle.control_line.specs.declared.request.ProgramText.{ProgramText as LentText}
use Rattle.control_line.specs.declared.request.ProgramText.TheVariants as lent
use Rattle.control_line.specs.declared.request.Request.{Request as LentRequest}
use Rattle.control_line.specs.declared.request.Request.TheVariants as lent_request
use Rattle.control_line.specs.declared.reading.Reading.{Reading as LentReading}
use Rattle.control_line.specs.declared.reading.Reading.TheVariants as lent_reading
use Rattle.control_line.specs.Reading.{Reading, filter_words, group_at, member_at, selector_words, verdict_on}
use Rattle.control_line.specs.Request.{Request, Spells, change, read, show, sweep}

-- the fields that a program ends a line with, or none
abbrev pub program_fields : Option Source → List (List ℕ)
program_fields None = codes "none" ∷ []
program_fields (Some (assembly text)) = codes "asm" ∷ text ∷ []
program_fields (Some (expression text)) = codes "expr" ∷ text ∷ []

-- a request as contracts see it: the texts without their places
abbrev pub source_of : LentText → Source
source_of (lent.Assembly text) = assembly text.now
source_of (lent.Expression text) = expression text.now

abbrev pub reading_of : LentReading → Reading
reading_of (lent_reading.Group index) = group_at index
reading_of (lent_reading.Member key index) = member_at key index
reading_of (lent_reading.Selector key place) = selector_words key place
reading_of (lent_reading.Filter key member place) = filter_words key member place
reading_of (lent_reading.Judge digits) = verdict_on digits.now

abbrev pub request_of : LentRequest → Request
request_of (lent_request.Change command) = change (command_over source_of command)
request_of lent_request.Show = show
request_of (lent_request.Read reading) = read (reading_of reading)
request_of lent_request.Sweep = sweep

-- a word of no line that names a group alone
pub record IsMemberWord (word : List ℕ) : Type 0 where
  pub lacks : Lacks 32 word
  pub not_add : word ≢ codes "add"
  pub not_remove : word ≢ codes "remove"
  pub not_selector : word ≢ codes "selector"

-- the request of a line, or nothing if it is no line of the table
abbrev pub IsRead : List ℕ → Option LentRequest → Type 0
IsRead line result =
    MatchOption result ((request : Request) → Spells line request → ⊥) (λ request. Spells line (request_of request))

-- the same of a line that asks for a change
abbrev pub IsCommandRead : List ℕ → Option (Command LentText) → Type 0
IsCommandRead line result =
    MatchOption result
    ((command : Command Source) → Spells line (change command) → ⊥)
    (λ command. Spells line (change (command_over source_of command)))

-- the same of a line that reads a part
abbrev pub IsReadingRead : List ℕ → Option LentReading → Type 0
IsReadingRead line result =
    MatchOption result
    ((reading : Reading) → Spells line (read reading) → ⊥)
    (λ reading. Spells line (read (reading_of reading)))
