-- How people are shown a request of `tell` that was not done (docs/COMMANDS.md, "tell").
use Rattle.std.specs.Prelude.{◌-◌, ◌∷◌, List, None, Option, Some, [], if◌then◌else◌, nat_lt, take, ℕ}
use Rattle.command_explain.specs.Meaning.{cause_line, meaning_of}
use Rattle.command_explain.specs.Printed.{ShowsCode}
use Rattle.command_explain.specs.Shown.{shown_text}
use Rattle.command_explain.specs.declared.file_fault.TheConstants.{SHOWN_LIMIT}
use Rattle.command_line.specs.Ending.{AppendsBeginning}
use Rattle.control_client.specs.Refused.{Refusal}

-- the number at a place, from 1; if there is none, the other one
abbrev pub number_at : Option ℕ → List ℕ → ℕ → Option ℕ
number_at other [] place = other
number_at other (number ∷ rest) place = if nat_lt place 1 then other else (if nat_lt 1 place then number_at other rest (place - 1) else Some number)

-- the number of the line that a reply is about, if it is about a line of a block; else that of the request
abbrev pub number_of : Option ℕ → List ℕ → Option ℕ → Option ℕ
number_of head lines None = head
number_of head lines (Some place) = number_at head lines place

-- the line for people about a request that was not done: what the code of the reply means, after the number of the input's line; if no
-- code is read in the reply, a beginning of the reply
pub data IsShownLine (one : Refusal) : List ℕ → Type 0 where
  explained : (code : List ℕ) (place : Option ℕ) → ShowsCode one.reply code place →
      IsShownLine one (cause_line (number_of one.head one.lines place) (meaning_of code))
  unread : ((code : List ℕ) (place : Option ℕ) → ShowsCode one.reply code place → ⊥) →
      IsShownLine one (cause_line one.head (shown_text (take SHOWN_LIMIT one.reply)))

-- it was shown; if memory or a write failed, a beginning of the line or nothing
abbrev pub Shows : Option (List ℕ) → Option (List ℕ) → Refusal → Type 0
Shows before after one = (line : List ℕ) × IsShownLine one line × AppendsBeginning before after line
