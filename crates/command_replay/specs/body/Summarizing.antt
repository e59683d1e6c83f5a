-- Replies that were counted, and their summary as it is written.
use Rattle.std.specs.Prelude.{List, Option, ℕ}
use Rattle.std.specs.Io.KnownBytes.{Appends}
use Rattle.command_line.specs.Ending.{AppendsBeginning}
use Rattle.control_summary.specs.Summary.{IsSummaryOf}
use Rattle.command_replay.specs.Replaying.{AreRepliesTo}

-- the input was read to its end, and each of its requests has its reply
abbrev pub WasReplayed : Option (List ℕ) → Type 0
WasReplayed known = (replies : List ℕ) × AreRepliesTo known replies

-- their summary was written, and nothing else
abbrev pub WritesSummary : List ℕ → Option (List ℕ) → Option (List ℕ) → Type 0
WritesSummary replies before after = (summary : List ℕ) × IsSummaryOf replies summary × Appends before after summary

-- a beginning of it was
abbrev pub BeginsSummary : List ℕ → Option (List ℕ) → Option (List ℕ) → Type 0
BeginsSummary replies before after = (summary : List ℕ) × IsSummaryOf replies summary × AppendsBeginning before after summary
