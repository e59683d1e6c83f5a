-- How a draining is printed.
use Rattle.std.specs.Prelude.{◌≡◌, ◌++◌, ◌⊎◌, List, Option, codes, ℕ}
use Rattle.command_line.specs.Ending.{AppendsBeginning}
use Rattle.command_line.specs.declared.ending.Status.TheVariants.{Done, Refused}
use Rattle.control_rules.specs.declared.draining.Drained.{Drained}
use Rattle.command_operating.specs.Draining.{drained_line, drained_status}

-- a beginning of its line was written; it is no failure
pub record BeginsDrained (drained : Drained) (before after : Option (List ℕ)) : Type 0 where
  pub ended : (drained_status drained ≡ Done) ⊎ (drained_status drained ≡ Refused)
  pub begun : AppendsBeginning before after (drained_line drained ++ codes "\n")
