-- The effect of a command, by its words and its input: what it writes, and how it may fail (docs/COMMANDS.md). `known` are the bytes of
-- the input, if they are known. `before` and `after` are the contents of the output before and after the command, if they are known;
-- `told_before` and `told_after` are the same of standard error.
use Rattle.std.specs.Prelude.{◌≡◌, ◌⊎◌, Err, List, Option, Result, Some, [], ℕ}
use Rattle.clap.specs.Words.{Text}
use Rattle.command_line.specs.declared.ending.Failure.{Failure}
use Rattle.command_line.specs.declared.ending.Failure.TheVariants.{BindFailed, NoAnswer, OutOfMemory, PollFailed, ReadFailed, RulesChanged, SpawnFailed, WriteFailed}
use Rattle.command_line.specs.declared.ending.Status.{Status}
use Rattle.command_line.specs.CommandLine.{Request, WaitingRequest, command_in, faults_in, packets, replay, returning, waiting}
use Rattle.command_line.specs.Ending.{AppendsBeginning, line_of}
use Rattle.command_line.specs.Input.{IsInput}
use Rattle.command_streams.specs.Failures.{FailuresValue, HasCause}
use Rattle.command_replay.specs.Replaying.{ReplayHasCause, ReplayWritesBefore, WritesScript}
use Rattle.packet_capture.specs.Packets.{TellsCounts, WritesBeginning, WritesFirst, WritesText}
use Rattle.command_query.specs.Query.{QueryWritesBefore, ReadsInput, WritesAnswer}

-- the input was read to its end, and the text of that file was written, and nothing else
abbrev pub WritesPackets : Option ℕ → Option (List ℕ) → Status → Option (List ℕ) → Option (List ℕ) → Type 0
WritesPackets unwrap known status before after = (file : List ℕ) × IsInput known file × WritesText unwrap file status before after

-- the input was read to its end, and a beginning of the counts of that file was written to standard error, and nothing else; nothing if
-- its header is at fault
abbrev pub TellsCountsOf : Option ℕ → Option (List ℕ) → Option (List ℕ) → Option (List ℕ) → Type 0
TellsCountsOf unwrap known before after = (file : List ℕ) × IsInput known file × TellsCounts unwrap file before after

-- the output of a command that ends with a status
abbrev pub Writes : Request → Option (List ℕ) → Status → Option (List ℕ) → Option (List ℕ) → Type 0
Writes (replay summary quiet) known status before after = WritesScript summary quiet known status before after
Writes (packets unwrap) known status before after = WritesPackets unwrap known status before after
Writes request known status before after = WritesAnswer request known status before after

-- the same of the command that the words name
abbrev pub WritesAnswerTo : List Text → Option (List ℕ) → Status → Option (List ℕ) → Option (List ℕ) → Type 0
WritesAnswerTo words known status before after =
    (request : Request) × (command_in words ≡ Some (returning request)) × Writes request known status before after

-- the words ask for a command that may wait
abbrev pub AskToWait : List Text → Type 0
AskToWait words = (faults_in words ≡ []) × ((request : WaitingRequest) × (command_in words ≡ Some (waiting request)))

-- the same of words, which may also ask for a text
abbrev pub MayFailBy : List Text → Failure → Type 0
MayFailBy words ReadFailed = (request : Request) × (command_in words ≡ Some (returning request)) × ReadsInput request
MayFailBy words WriteFailed = AskToWait words → ⊥
MayFailBy words OutOfMemory = Unit {0}
MayFailBy words SpawnFailed = ⊥
MayFailBy words BindFailed = ⊥
MayFailBy words PollFailed = ⊥
MayFailBy words NoAnswer = ⊥
MayFailBy words RulesChanged = ⊥

-- ---- what a command that failed has written

-- the packets of some first records of the input were written, and nothing else
abbrev pub WritesFirstPackets : Option ℕ → Option (List ℕ) → Option (List ℕ) → Option (List ℕ) → Type 0
WritesFirstPackets unwrap known before after = (file : List ℕ) × IsInput known file × WritesFirst unwrap file before after

-- a beginning of the text of the input was written, and nothing else
abbrev pub BeginsPackets : Option ℕ → Option (List ℕ) → Option (List ℕ) → Option (List ℕ) → Type 0
BeginsPackets unwrap known before after = (file : List ℕ) × IsInput known file × WritesBeginning unwrap file before after

abbrev pub PacketsWriteBefore : Option ℕ → Failure → Option (List ℕ) → Option (List ℕ) → Option (List ℕ) → Type 0
PacketsWriteBefore unwrap OutOfMemory known before after = (after ≡ before) ⊎ WritesFirstPackets unwrap known before after
PacketsWriteBefore unwrap WriteFailed known before after = BeginsPackets unwrap known before after
PacketsWriteBefore unwrap failure known before after = after ≡ before

-- the output before each failure
abbrev pub WritesBefore : Request → Failure → Option (List ℕ) → Option (List ℕ) → Option (List ℕ) → Type 0
WritesBefore (replay summary quiet) failure known before after = ReplayWritesBefore summary quiet failure known before after
WritesBefore (packets unwrap) failure known before after = PacketsWriteBefore unwrap failure known before after
WritesBefore request failure known before after = QueryWritesBefore request failure known before after

-- the same of the command that words without a fault name; of one that may wait, nothing was written
abbrev pub WritesBeforeBy : List Text → Failure → Option (List ℕ) → Option (List ℕ) → Option (List ℕ) → Type 0
WritesBeforeBy words failure known before after =
    (faults_in words ≡ [] → (request : Request) → command_in words ≡ Some (returning request) → WritesBefore request failure known before after)
    × (AskToWait words → after ≡ before)

-- a command failed in a way in which it may; a beginning of the failure's line was written to standard error
pub record EndsInFailure (words : List Text) (known before after told_before told_after : Option (List ℕ)) : Type 0 where
  pub failure : Failure
  pub may_fail : MayFailBy words failure
  pub written : WritesBeforeBy words failure known before after
  pub told : AppendsBeginning told_before told_after (line_of failure)

-- ---- which device made it fail; `read` and `read'` are the failures of its input before and after it, `wrote` and `wrote'` those of
-- its output

-- of a command with this request, `replay` alone may also fail to flush its output at its end
abbrev pub HasCauseOf : Request → Result Status Failure → ℕ → ℕ → FailuresValue → FailuresValue → Type 0
HasCauseOf (replay summary quiet) ended read read' wrote wrote' = ReplayHasCause quiet ended read read' wrote wrote'
HasCauseOf request ended read read' wrote wrote' = HasCause ended read read' wrote wrote'

-- the same of the command that the words name, or of a text
abbrev pub HasCauseBy : List Text → Result Status Failure → ℕ → ℕ → FailuresValue → FailuresValue → Type 0
HasCauseBy words ended read read' wrote wrote' =
    ((request : Request) × (faults_in words ≡ []) × (command_in words ≡ Some (returning request)) × HasCauseOf request ended read read' wrote wrote')
    ⊎ HasCause ended read read' wrote wrote'

-- a command failed so, and by a device that failed
pub record EndsWithCause (words : List Text) (known before after told_before told_after : Option (List ℕ)) (read read' : ℕ) (wrote wrote' : FailuresValue) : Type 0 where
  pub ends : EndsInFailure words known before after told_before told_after
  pub cause : HasCauseBy words (Err ends.failure) read read' wrote wrote'
