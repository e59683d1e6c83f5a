-- Texts that are written in parts, up to a failed write.
use Rattle.std.proofs.Common.{◌∙◌, ◌++◌, List, Option, ap, append_assoc, sym, ℕ}
use Rattle.std.proofs.KnownBytes.{Appends-trans}
use Rattle.std.specs.Io.KnownBytes.{Appends}
use Rattle.command_line.specs.Ending.{AppendsBeginning}

-- a beginning of the first part
pub begins_first : (before after : Option (List ℕ)) (first then : List ℕ) → AppendsBeginning before after first → AppendsBeginning before after (first ++ then)
begins_first before after first then so_far =
    (so_far.0, so_far.1 ++ then, so_far.2, ap (λ bytes. bytes ++ then) so_far.3 ∙ append_assoc so_far.0 so_far.1 then)

-- the first part, and a beginning of the second
pub begins_then : (before mid after : Option (List ℕ)) (first then : List ℕ) → Appends before mid first → AppendsBeginning mid after then → AppendsBeginning before after (first ++ then)
begins_then before mid after first then one two = (
  first ++ two.0,
  two.1,
  Appends-trans before mid after first two.0 one two.2,
  ap (λ bytes. first ++ bytes) two.3 ∙ sym (append_assoc first two.0 two.1),
)
