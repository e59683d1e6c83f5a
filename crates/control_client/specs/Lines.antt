-- The lines that are given, and the requests that they are sent as (docs/COMMANDS.md, "tell").
use Rattle.std.specs.Prelude.{◌≡◌, ◌≢◌, ◌<◌, ◌++◌, ◌∷◌, Bool, List, None, Option, Some, [], codes, decimal, false, length, map, true, ℕ}
use Rattle.std.specs.Prelude.{Err, Ok, Result, suc}
use Rattle.std.specs.Option.{option_map}
use Rattle.control_line.specs.Answer.{NumberedLine}
use Rattle.control_line.specs.Block.{IsHead, after_line_feeds, head_text}
use Rattle.control_line.specs.Rules.{lines_in, rules_from, rules_in}
use Rattle.control_line.specs.declared.head.Head.{Head}
use Rattle.command_line.specs.declared.ending.Failure.{Failure}
use Rattle.command_line.specs.declared.ending.Failure.TheVariants.{ReadFailed}
use Rattle.command_streams.specs.Failures.{FailuresValue}

-- the lines of a text that is known, or of none
abbrev pub lines_known : Option (List ℕ) → Option (List (List ℕ))
lines_known text = option_map lines_in text

-- the lines of a script that are sent, each with its number among all lines: those that a rules file does not skip, without the CR
-- at the end
abbrev pub script_known : Option (List ℕ) → Option (List NumberedLine)
script_known text = option_map rules_in text

-- the same of what follows so many lines
abbrev pub script_after : ℕ → Option (List ℕ) → Option (List NumberedLine)
script_after read text = option_map (λ known. rules_from (suc read) (lines_in known)) text

-- the lines of an input: those to come, if they are known, how often a read of the input failed, and the name of its borrow
pub record InputLinesValue : Type 0 where
  pub coming : Option (List NumberedLine)
  pub failures : FailuresValue

-- one read failed if the failure is that of a read, and else none
abbrev pub LinesFail : {A : Type 0} → Result A Failure → FailuresValue → FailuresValue → Type 0
LinesFail (Ok answer) before after = after ≡ before
LinesFail (Err ReadFailed) before after = after ≡ record { count = suc before.count; borrow = before.borrow }
LinesFail (Err failure) before after = after ≡ before

abbrev pub texts_of : List NumberedLine → List (List ℕ)
texts_of lines = map (λ (line : NumberedLine). line.text) lines

abbrev pub numbers_of : List NumberedLine → List ℕ
numbers_of lines = map (λ (line : NumberedLine). line.number) lines

-- known lines begin with this one, and lose it
abbrev pub LosesLine : {A : Type 0} → Option (List A) → Option (List A) → A → Type 0
LosesLine None later line = Unit {0}
LosesLine (Some coming) None line = ⊥
LosesLine (Some coming) (Some later) line = coming ≡ line ∷ later

-- no known line was left, and none is
abbrev pub AreNone : {A : Type 0} → Option (List A) → Option (List A) → Type 0
AreNone None later = Unit {0}
AreNone (Some coming) None = ⊥
AreNone (Some coming) (Some later) = (coming ≡ []) × (later ≡ [])

-- a line was given, or there was none
abbrev pub GivesNext : Option (List (List ℕ)) → Option (List (List ℕ)) → List ℕ → Bool → Type 0
GivesNext before after line true = LosesLine before after line
GivesNext before after line false = AreNone before after

-- a line was given with its number, or there was none
abbrev pub GivesNumbered : Option (List NumberedLine) → Option (List NumberedLine) → List ℕ → Option ℕ → Type 0
GivesNumbered before after line (Some number) = LosesLine before after (record { number = number; text = line })
GivesNumbered before after line None = AreNone before after

-- ---- requests

-- the bytes of a request, and its place in the input: the number of its line, or of the first line of its block, and the numbers of
-- the other lines of the block. If all lines are one change, it has no first line in the input
pub record Request : Type 0 where
  pub head : Option ℕ
  pub lines : List ℕ
  pub text : List ℕ

-- the line is not the first one of a block
abbrev pub IsNoHead : List ℕ → Type 0
IsNoHead line = (head : Head) → IsHead head → line ≢ head_text head

-- the request of one line
abbrev pub line_request : NumberedLine → Request
line_request line = record { head = Some line.number; lines = []; text = line.text }

-- the request of a block whose first line has this number
abbrev pub block_request : ℕ → Head → List NumberedLine → Request
block_request number head lines =
    record { head = Some number; lines = numbers_of lines; text = head_text head ++ after_line_feeds (texts_of lines) }

-- the next request of these lines, and the lines after it: a line, or a block: its first line, and as many lines as that says, or
-- those that are left if they are fewer
pub data IsNextRequest : List NumberedLine → List NumberedLine → Request → Type 0 where
  single : (line : NumberedLine) (after : List NumberedLine) → IsNoHead line.text → IsNextRequest (line ∷ after) after (line_request line)
  block : (number : ℕ) (head : Head) (lines after : List NumberedLine) → IsHead head → length lines ≡ head.count →
      IsNextRequest (record { number = number; text = head_text head } ∷ (lines ++ after)) after (block_request number head lines)
  cut : (number : ℕ) (head : Head) (lines : List NumberedLine) → IsHead head → length lines < head.count →
      IsNextRequest (record { number = number; text = head_text head } ∷ lines) [] (block_request number head lines)

-- these are the first requests of the lines, and these lines are left
pub data AreRequests (coming : List NumberedLine) : List NumberedLine → List Request → Type 0 where
  no_request : AreRequests coming coming []
  next_request : (mid left : List NumberedLine) (requests : List Request) (request : Request) → AreRequests coming mid requests →
      IsNextRequest mid left request → AreRequests coming left (requests ++ request ∷ [])

-- these are the requests of all lines that were known
abbrev pub AreAll : Option (List NumberedLine) → List Request → Type 0
AreAll None requests = Unit {0}
AreAll (Some coming) requests = AreRequests coming [] requests

-- these are the first requests of the lines that were known
abbrev pub AreFirst : Option (List NumberedLine) → List Request → Type 0
AreFirst None requests = Unit {0}
AreFirst (Some coming) requests = (left : List NumberedLine) × AreRequests coming left requests

-- known lines begin with this request, and lose it
abbrev pub LosesRequest : Option (List NumberedLine) → Option (List NumberedLine) → Request → Type 0
LosesRequest None later request = Unit {0}
LosesRequest (Some coming) None request = ⊥
LosesRequest (Some coming) (Some later) request = IsNextRequest coming later request

-- a request was given with the number of its first line, or there was none
abbrev pub GivesRequest : Option (List NumberedLine) → Option (List NumberedLine) → (lines text : List ℕ) → Option ℕ → Type 0
GivesRequest before after lines text (Some number) = LosesRequest before after (record { head = Some number; lines = lines; text = text })
GivesRequest before after lines text None = AreNone before after

-- the request is a block of all lines that were known: its first line up to their number, their number, and the lines
abbrev pub IsBlockOf : List ℕ → Option (List NumberedLine) → List ℕ → Type 0
IsBlockOf front None request = Unit {0}
IsBlockOf front (Some lines) request = request ≡ front ++ (decimal (length lines) ++ after_line_feeds (texts_of lines))

-- these are the numbers of all lines that were known
abbrev pub AreNumbersOf : Option (List NumberedLine) → List ℕ → Type 0
AreNumbersOf None numbers = Unit {0}
AreNumbersOf (Some lines) numbers = numbers ≡ numbers_of lines

-- all lines that were known, as one change
pub record IsChangeOf (lines : Option (List NumberedLine)) (request : Request) : Type 0 where
  pub no_head : request.head ≡ None
  pub numbers : AreNumbersOf lines request.lines
  pub block : IsBlockOf (codes "all ") lines request.text
