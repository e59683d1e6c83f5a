-- Texts that are written in parts, and a beginning of them.
use Rattle.std.proofs.Common.{◌∙◌, ◌++◌, Err, List, Ok, Option, Result, [], ap, append_assoc, append-nil, refl, sym, ℕ}
use Rattle.std.specs.Prelude.{OnErr}
use Rattle.std.proofs.KnownBytes.{Appends-nil, Appends-trans}
use Rattle.std.specs.Io.KnownBytes.{Appends}
use Rattle.command_line.specs.Ending.{AppendsBeginning}

-- of nothing that was written
pub begins_none : (known : Option (List ℕ)) (text : List ℕ) → AppendsBeginning known known text
begins_none known text = ([], text, Appends-nil known, refl)

-- of the first part a beginning
pub begins_first : (before after : Option (List ℕ)) (first then : List ℕ) → AppendsBeginning before after first → AppendsBeginning before after (first ++ then)
begins_first before after first then so_far =
    (so_far.0, so_far.1 ++ then, so_far.2, ap (λ bytes. bytes ++ then) so_far.3 ∙ append_assoc so_far.0 so_far.1 then)

-- of the second
pub begins_then : (before mid after : Option (List ℕ)) (first then : List ℕ) → Appends before mid first → AppendsBeginning mid after then → AppendsBeginning before after (first ++ then)
begins_then before mid after first then one two = (
  first ++ two.0,
  two.1,
  Appends-trans before mid after first two.0 one two.2,
  ap (λ bytes. first ++ bytes) two.3 ∙ sym (append_assoc first two.0 two.1),
)

-- the whole is a beginning
pub begins_whole : (before after : Option (List ℕ)) (text : List ℕ) → Appends before after text → AppendsBeginning before after text
begins_whole before after text written = (text, [], written, sym (append-nil text))

-- what holds anyway holds at an error
pub on_err : {A E : Type 0} (result : Result A E) (P : Type 0) → P → OnErr result P
on_err (Ok done) P is = tt
on_err (Err given) P is = is
