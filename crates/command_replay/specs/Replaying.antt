-- The output of `replay`, by its options `--summary` and `--quiet` (docs/COMMANDS.md, "replay"). If there are two truth values, the
-- first says that `--summary` is given, the second that `--quiet` is. `known` are the bytes of the input, if they are known.
-- `before` and `after` are the contents of the output before and after the command, if they are known.
use Rattle.std.specs.Prelude.{◌≡◌, ◌++◌, ◌⊎◌, Bool, Err, List, Option, Result, [], false, suc, true, ℕ}
use Rattle.std.specs.Io.KnownBytes.{Appends}
use Rattle.command_line.specs.Ending.{AppendsBeginning}
use Rattle.command_line.specs.declared.ending.Failure.{Failure}
use Rattle.command_line.specs.declared.ending.Failure.TheVariants.{OutOfMemory, ReadFailed, WriteFailed}
use Rattle.command_line.specs.declared.ending.Status.{Status}
use Rattle.command_line.specs.declared.ending.Status.TheVariants.{Done}
use Rattle.control.specs.Script.{AreAnswered, IsScriptText, Standing}
use Rattle.control_summary.specs.Summary.{IsSummaryOf}
use Rattle.command_line.specs.Input.{BeginsInput, IsInput}
use Rattle.command_streams.specs.Failures.{FailuresValue, HasCause, one_more}

-- the input was read to its end, and these are the replies to all its requests
pub record AreRepliesTo (known : Option (List ℕ)) (replies : List ℕ) : Type 0 where
  pub script : List ℕ
  pub whole : IsInput known script
  pub are : IsScriptText script replies

-- the text that the options ask for: the replies, and after them the summary of them
abbrev pub IsTextFor : Bool → Bool → List ℕ → List ℕ → Type 0
IsTextFor false false replies text = text ≡ replies
IsTextFor false true replies text = text ≡ []
IsTextFor true false replies text = (summary : List ℕ) × IsSummaryOf replies summary × (text ≡ replies ++ summary)
IsTextFor true true replies text = IsSummaryOf replies text

-- the status is 0, each request of the whole input has its reply, and the text that the options ask for was written, and nothing else
pub record WritesScript (summary quiet : Bool) (known : Option (List ℕ)) (status : Status) (before after : Option (List ℕ)) : Type 0 where
  pub done : status ≡ Done
  pub replies : List ℕ
  pub text : List ℕ
  pub answered : AreRepliesTo known replies
  pub asked_for : IsTextFor summary quiet replies text
  pub written : Appends before after text

-- ---- what a replay that failed has written

-- the input could not be read, the replies could not be written, or memory was refused
abbrev pub ReplayMayFail : Failure → Type 0
ReplayMayFail ReadFailed = Unit {0}
ReplayMayFail WriteFailed = Unit {0}
ReplayMayFail OutOfMemory = Unit {0}
ReplayMayFail failure = ⊥

-- the replies to some first requests of the input were written, each whole, and nothing else
pub record RepliesToFirstLines (known before after : Option (List ℕ)) : Type 0 where
  pub lines : List ℕ
  pub text : List ℕ
  pub last : Standing
  pub read : BeginsInput known lines
  pub answered : AreAnswered lines text last
  pub written : Appends before after text

-- the replies to all requests of the input were written, and nothing else
pub record WritesAllReplies (known before after : Option (List ℕ)) : Type 0 where
  pub replies : List ℕ
  pub answered : AreRepliesTo known replies
  pub written : Appends before after replies

-- these are the replies to some first requests of the input, or to all its requests
abbrev pub IsTextOfInput : Option (List ℕ) → List ℕ → Type 0
IsTextOfInput known text = ((lines : List ℕ) × (last : Standing) × BeginsInput known lines × AreAnswered lines text last) ⊎ AreRepliesTo known text

-- a beginning of such replies was written, and nothing else
abbrev pub WritesBeginningOfReplies : Option (List ℕ) → Option (List ℕ) → Option (List ℕ) → Type 0
WritesBeginningOfReplies known before after = (text : List ℕ) × IsTextOfInput known text × AppendsBeginning before after text

-- each request of the whole input has its reply; a beginning of the text that the options ask for was written, and nothing else
pub record WritesBeginningFor (summary quiet : Bool) (known before after : Option (List ℕ)) : Type 0 where
  pub replies : List ℕ
  pub text : List ℕ
  pub answered : AreRepliesTo known replies
  pub asked_for : IsTextFor summary quiet replies text
  pub begun : AppendsBeginning before after text

-- without options: if a write failed a beginning of the replies, and else the replies to some first requests
abbrev pub RepliesBefore : Failure → Option (List ℕ) → Option (List ℕ) → Option (List ℕ) → Type 0
RepliesBefore ReadFailed known before after = RepliesToFirstLines known before after
RepliesBefore WriteFailed known before after = WritesBeginningOfReplies known before after
RepliesBefore OutOfMemory known before after = RepliesToFirstLines known before after
RepliesBefore failure known before after = ⊥

-- with `--summary`: the same; but after all requests have their replies, a write of the summary may fail, or memory for the summary be
-- refused, and then the replies to all requests were written
abbrev pub RepliesAndSummaryBefore : Failure → Option (List ℕ) → Option (List ℕ) → Option (List ℕ) → Type 0
RepliesAndSummaryBefore ReadFailed known before after = RepliesToFirstLines known before after
RepliesAndSummaryBefore WriteFailed known before after = WritesBeginningOfReplies known before after ⊎ WritesBeginningFor true false known before after
RepliesAndSummaryBefore OutOfMemory known before after = RepliesToFirstLines known before after ⊎ WritesAllReplies known before after
RepliesAndSummaryBefore failure known before after = ⊥

-- with both: nothing, but if a write failed a beginning of the summary
abbrev pub SummaryBefore : Failure → Option (List ℕ) → Option (List ℕ) → Option (List ℕ) → Type 0
SummaryBefore ReadFailed known before after = after ≡ before
SummaryBefore WriteFailed known before after = WritesBeginningFor true true known before after
SummaryBefore OutOfMemory known before after = after ≡ before
SummaryBefore failure known before after = ⊥

-- with `--quiet`: nothing, and no write fails
abbrev pub NothingBefore : Failure → Option (List ℕ) → Option (List ℕ) → Option (List ℕ) → Type 0
NothingBefore ReadFailed known before after = after ≡ before
NothingBefore OutOfMemory known before after = after ≡ before
NothingBefore failure known before after = ⊥

abbrev pub ReplayWritesBefore : Bool → Bool → Failure → Option (List ℕ) → Option (List ℕ) → Option (List ℕ) → Type 0
ReplayWritesBefore false false failure known before after = RepliesBefore failure known before after
ReplayWritesBefore true false failure known before after = RepliesAndSummaryBefore failure known before after
ReplayWritesBefore true true failure known before after = SummaryBefore failure known before after
ReplayWritesBefore false true failure known before after = NothingBefore failure known before after

-- ---- which device made it fail

-- one write or flush failed, or one write and the flush after it
abbrev pub FailsToWrite : FailuresValue → FailuresValue → Type 0
FailsToWrite before after = (after ≡ one_more before) ⊎ (after ≡ one_more (one_more before))

-- as `HasCause`; but the replies are flushed also after a failure, and if that flush fails the replay fails to write, whatever failed before
abbrev pub HasCauseThenFlush : {A : Type 0} → Result A Failure → ℕ → ℕ → FailuresValue → FailuresValue → Type 0
HasCauseThenFlush (Err WriteFailed) read read' written written' =
    ((read' ≡ read) × FailsToWrite written written') ⊎ ((read' ≡ suc read) × (written' ≡ one_more written))
HasCauseThenFlush result read read' written written' = HasCause result read read' written written'

-- with `--quiet` there are no replies to flush
abbrev pub ReplayHasCause : {A : Type 0} → Bool → Result A Failure → ℕ → ℕ → FailuresValue → FailuresValue → Type 0
ReplayHasCause false result read read' written written' = HasCauseThenFlush result read read' written written'
ReplayHasCause true result read read' written written' = HasCause result read read' written written'
