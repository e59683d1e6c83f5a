-- The result of a command, by its arguments and its input, or why there is none (docs/COMMANDS.md). `known` are the bytes of the
-- input, if they are known. `before` and `after` are the contents of the output before and after the command, if they are known.
use Rattle.std.specs.Prelude.{◌≡◌, ◌++◌, ◌⊎◌, IsSome, IsSomeAnd, List, MatchOption, Option, codes, ℕ}
use Rattle.std.specs.Io.KnownBytes.{Appends}
use Rattle.control_line.specs.Packet.{IsRefusalOfHex, SpellsPacket}
use Rattle.control_line.specs.Reason.{IsRefusalOfExpression, refusal_text}
use Rattle.control_line.specs.Request.{spaced}
use Rattle.control_line.specs.declared.reason.Reason.{Reason}
use Rattle.control_line.specs.declared.reason.Reason.TheVariants.{BadForm}
use Rattle.command_query.specs.declared.command_result.CommandResult.{CommandResult}
use Rattle.command_query.specs.declared.command_result.CommandResult.TheVariants.{Versions}
use Rattle.command_line.specs.Ending.{AppendsBeginning}
use Rattle.command_line.specs.declared.ending.Failure.{Failure}
use Rattle.command_line.specs.declared.ending.Failure.TheVariants.{BindFailed, NoAnswer, OutOfMemory, PollFailed, ReadFailed, RulesChanged, SpawnFailed, WriteFailed}
use Rattle.command_line.specs.declared.ending.Status.{Status}
use Rattle.command_line.specs.declared.ending.Status.TheVariants.{Done, Refused}
use Rattle.command_query.specs.declared.stop.Stop.{Stop}
use Rattle.command_query.specs.declared.stop.Stop.TheVariants as stop
use Rattle.command_query.specs.CommandResult.{IsCheckAnswer, IsCompileAnswer, IsExplainAnswer, IsJudgeAnswer, IsRunAnswer, IsSpreadAnswer, answer_text}
use Rattle.command_line.specs.CommandLine.{Request, check, compile, explain, first, judge, pack, packets, replay, run, spread}
use Rattle.bpf_formats.specs.declared.fault.FormatFault.{FormatFault}
use Rattle.command_explain.specs.Printed.{ShowsCode}
use Rattle.command_query.specs.Format.{IsFormatFault, IsRefusalOfProgram, input_format_of, misformed_text, output_format_of}
use Rattle.command_query.specs.FirstPath.{first_text}
use Rattle.command_query.specs.Packing.{IsPackAnswer, IsRefusalOfPack}
use Rattle.command_line.specs.Input.{IsInput}

-- the two lines of the first path
abbrev pub IsFirstAnswer : CommandResult → Type 0
IsFirstAnswer (Versions at_first at_second) = answer_text (Versions at_first at_second) ≡ first_text
IsFirstAnswer _ = ⊥

-- the result of a command, if its input has these bytes
abbrev pub IsResult : Request → List ℕ → CommandResult → Type 0
IsResult first input answer = IsFirstAnswer answer
IsResult (check name) input answer = IsSomeAnd (input_format_of name) (λ format. IsCheckAnswer format input answer)
IsResult (compile expression name) input answer =
    IsSomeAnd (output_format_of name) (λ format. IsCompileAnswer format expression answer)
IsResult (run digits name) input answer =
    (packet : List ℕ)
    × SpellsPacket digits packet
    × IsSomeAnd (input_format_of name) (λ format. IsRunAnswer packet format input answer)
IsResult (judge digits expression) input answer =
    (packet : List ℕ) × SpellsPacket digits packet × IsJudgeAnswer packet expression answer
IsResult (pack source destination digits text) input answer = IsPackAnswer source destination digits text answer
IsResult (explain words) input answer = IsExplainAnswer (spaced words) answer
IsResult (spread depth by shares) input answer = IsSpreadAnswer depth by shares answer
IsResult (replay summary quiet) input answer = ⊥
IsResult (packets unwrapped) input answer = ⊥

-- a text that shows no code
abbrev pub IsRefusalOfCode : List ℕ → Reason → Type 0
IsRefusalOfCode text reason = (reason ≡ BadForm) × ((code : List ℕ) (line : Option ℕ) → ShowsCode text code line → ⊥)

-- a name that is no format's, or the program's text
abbrev pub IsRefusalOfInput : List ℕ → List ℕ → Reason → Type 0
IsRefusalOfInput name text reason =
    MatchOption (input_format_of name) (reason ≡ BadForm) (λ format. IsRefusalOfProgram format text reason)

-- why it has none; the packet is tested first, then the name of the format, then the program or the expression
abbrev pub IsRefusalReason : Request → List ℕ → Reason → Type 0
IsRefusalReason first input reason = ⊥
IsRefusalReason (check name) input reason = IsRefusalOfInput name input reason
IsRefusalReason (compile expression name) input reason =
    MatchOption (output_format_of name) (reason ≡ BadForm) (λ format. IsRefusalOfExpression expression reason)
IsRefusalReason (run digits name) input reason =
    IsRefusalOfHex digits reason ⊎ ((packet : List ℕ) × SpellsPacket digits packet × IsRefusalOfInput name input reason)
IsRefusalReason (judge digits expression) input reason =
    IsRefusalOfHex digits reason ⊎ ((packet : List ℕ) × SpellsPacket digits packet × IsRefusalOfExpression expression reason)
IsRefusalReason (pack source destination digits text) input reason = IsRefusalOfPack source destination digits text reason
IsRefusalReason (explain words) input reason = IsRefusalOfCode (spaced words) reason
IsRefusalReason (spread depth by shares) input reason = ⊥
IsRefusalReason (replay summary quiet) input reason = ⊥
IsRefusalReason (packets unwrapped) input reason = ⊥

-- or a text that is not in the format of this name
abbrev pub IsMisformed : Request → List ℕ → FormatFault → Type 0
IsMisformed (check name) input fault = IsSomeAnd (input_format_of name) (λ format. IsFormatFault format input fault)
IsMisformed (run digits name) input fault =
    (packet : List ℕ)
    × SpellsPacket digits packet
    × IsSomeAnd (input_format_of name) (λ format. IsFormatFault format input fault)
IsMisformed _ input fault = ⊥

-- the input is read by `replay` and `packets`, by `check` if the format is known, and by `run` without an expression if the
-- packet is good, too
abbrev pub ReadsInput : Request → Type 0
ReadsInput (check name) = IsSome (input_format_of name)
ReadsInput (replay summary quiet) = Unit {0}
ReadsInput (packets unwrapped) = Unit {0}
ReadsInput (run digits name) = (packet : List ℕ) × SpellsPacket digits packet × IsSome (input_format_of name)
ReadsInput _ = ⊥

-- a failure before anything is written: the input could not be read, or memory was refused
abbrev pub IsFailureOf : Request → Failure → Type 0
IsFailureOf request ReadFailed = ReadsInput request
IsFailureOf request WriteFailed = ⊥
IsFailureOf request OutOfMemory = Unit {0}
IsFailureOf request SpawnFailed = ⊥
IsFailureOf request BindFailed = ⊥
IsFailureOf request PollFailed = ⊥
IsFailureOf request NoAnswer = ⊥
IsFailureOf request RulesChanged = ⊥

-- ---- the same of an input of which the bytes may be known

abbrev pub IsResultOf : Request → Option (List ℕ) → CommandResult → Type 0
IsResultOf request known answer = (input : List ℕ) × IsInput known input × IsResult request input answer

abbrev pub IsRefusalOf : Request → Option (List ℕ) → Reason → Type 0
IsRefusalOf request known reason = (input : List ℕ) × IsInput known input × IsRefusalReason request input reason

abbrev pub IsMisformedBy : Request → Option (List ℕ) → FormatFault → Type 0
IsMisformedBy request known fault = (input : List ℕ) × IsInput known input × IsMisformed request input fault

abbrev pub IsStopOf : Request → Option (List ℕ) → Stop → Type 0
IsStopOf request known (stop.Refused reason) = IsRefusalOf request known reason
IsStopOf request known (stop.Misformed fault) = IsMisformedBy request known fault
IsStopOf request known (stop.Failed failure) = IsFailureOf request failure

-- the line of a refusal
abbrev pub IsRefusalLine : Request → Option (List ℕ) → List ℕ → Type 0
IsRefusalLine request known text =
    ((reason : Reason) × IsRefusalOf request known reason × (text ≡ refusal_text reason ++ codes "\n"))
    ⊎ ((fault : FormatFault) × IsMisformedBy request known fault × (text ≡ misformed_text fault ++ codes "\n"))

-- the text that is written with a status: that of the result, or the line of the refusal
abbrev pub IsAnswerText : Request → Option (List ℕ) → Status → List ℕ → Type 0
IsAnswerText request known Done text = (answer : CommandResult) × IsResultOf request known answer × (text ≡ answer_text answer)
IsAnswerText request known Refused text = IsRefusalLine request known text
IsAnswerText request known _ text = ⊥

-- the command's text was appended to the output, and nothing else
abbrev pub WritesAnswer : Request → Option (List ℕ) → Status → Option (List ℕ) → Option (List ℕ) → Type 0
WritesAnswer request known status before after = (text : List ℕ) × IsAnswerText request known status text × Appends before after text

-- a command may fail in this way: reading fails only if it reads
abbrev pub MayFail : Request → Failure → Type 0
MayFail request ReadFailed = ReadsInput request
MayFail request WriteFailed = Unit {0}
MayFail request OutOfMemory = Unit {0}
MayFail request SpawnFailed = ⊥
MayFail request BindFailed = ⊥
MayFail request PollFailed = ⊥
MayFail request NoAnswer = ⊥
MayFail request RulesChanged = ⊥

-- a beginning of the command's text was appended to the output, and nothing else
abbrev pub BeginsAnswer : Request → Option (List ℕ) → Option (List ℕ) → Option (List ℕ) → Type 0
BeginsAnswer request known before after = (status : Status) × (text : List ℕ) × IsAnswerText request known status text × AppendsBeginning before after text

-- the output of a command with one result before each failure: nothing, or a beginning of its text if a write failed
abbrev pub QueryWritesBefore : Request → Failure → Option (List ℕ) → Option (List ℕ) → Option (List ℕ) → Type 0
QueryWritesBefore request WriteFailed known before after = BeginsAnswer request known before after
QueryWritesBefore request failure known before after = after ≡ before
