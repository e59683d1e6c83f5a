-- A reading of a switch (docs/COMMANDS.md, "metrics").
use Rattle.std.specs.Prelude.{◌≡◌, ◌++◌, ◌∷◌, List, None, Option, Some, codes, decimal, ℕ}
use Rattle.std.specs.Borrow.{Bor}
use Rattle.control_client.specs.Exchange.{Exchange}
use Rattle.control_rules.specs.Fields.{fields_in}
use Rattle.control_rules.specs.History.{History}
use Rattle.counter_text.specs.declared.counters.Counters.{Counters}
use Rattle.control_counters.specs.Frame.{IsFrameOf}
use Rattle.control_counters.specs.Counts.{count_exchanges}

-- a reply to `show` named this version
pub record IsNamed (told : List Exchange) (version : ℕ) : Type 0 where
  pub before : List Exchange
  pub after : List Exchange
  pub reply : List ℕ
  pub more : List (List ℕ)
  pub whole : told ≡ before ++ (record { line = codes "show"; reply = reply } ∷ after)
  pub names : fields_in reply ≡ codes "version" ∷ decimal version ∷ more

-- the version was shown; the groups and members are those of it; and each count is in the last reply to the line of its group or member
pub record AreCountersOf (history : History) (told : List Exchange) (counters : Counters) : Type 0 where
  pub before : List Exchange
  pub named : IsNamed told counters.version
  pub frame : IsFrameOf (history counters.version) counters
  pub counted : told ≡ before ++ count_exchanges counters

-- an earlier reading, if there is one, was of this switch
abbrev pub IsKnown : History → Option (Bor Counters) → Type 0
IsKnown history None = Unit {0}
IsKnown history (Some counters) = IsFrameOf (history counters.now.version) counters.now
