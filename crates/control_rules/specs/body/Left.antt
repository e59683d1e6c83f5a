-- The fields that are still to be read.
use Rattle.std.specs.Prelude.{List, None, Option, Some, [], ℕ}
use Rattle.std.specs.Borrow.{Bor}
use Rattle.control_rules.specs.Fields.{fields_in}

-- those of the text that is left; none is left after the last field
abbrev pub fields_left : Option (Bor (List ℕ)) → List (List ℕ)
fields_left None = []
fields_left (Some text) = fields_in text.now
