-- The printed text of a code (docs/COMMANDS.md, "Refusals").
use Rattle.std.specs.Prelude.{◌++◌, List, None, Option, Some, [], codes, decimal, get_or, ℕ}
use Rattle.std.specs.Char.{encode_utf8}
use Rattle.fault_code.specs.declared.Code.{Code}

abbrev pub lettered : ℕ → ℕ → Option ℕ → Code
lettered letter number place = record { letter = letter; number = number; place = place }

-- the code of this letter, without a place, and with one
abbrev pub plain : List ℕ → ℕ → Code
plain letter number = lettered (get_or letter 0 0) number None

abbrev pub at : List ℕ → ℕ → ℕ → Code
at letter number place = lettered (get_or letter 0 0) number (Some place)

-- `V3`
abbrev pub name_text : Code → List ℕ
name_text code = encode_utf8 code.letter ++ decimal code.number

-- a space and the place, or nothing
abbrev pub place_text : Option ℕ → List ℕ
place_text None = []
place_text (Some place) = codes " " ++ decimal place

abbrev pub code_text : Code → List ℕ
code_text code = name_text code ++ place_text code.place
