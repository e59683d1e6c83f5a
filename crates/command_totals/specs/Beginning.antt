-- A line of totals that was not written whole.
use Rattle.std.specs.Prelude.{◌++◌, List, Option, codes, ℕ}
use Rattle.command_line.specs.Ending.{AppendsBeginning}
use Rattle.dispatch.specs.Totals.{totals_text}
use Rattle.dispatch.specs.declared.kind.Totals.{Totals}

-- a beginning of the line of these totals was written, possibly none of it or the whole
abbrev pub BeginsTotals : Totals → Option (List ℕ) → Option (List ℕ) → Type 0
BeginsTotals totals before after = AppendsBeginning before after (totals_text totals ++ codes "\n")
