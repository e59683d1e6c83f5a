-- The lines of `first`.
use Rattle.std.specs.Prelude.{◌++◌, ◌∷◌, [], ℕ, List, codes, decimal}
use Rattle.command_query.specs.declared.first_path.Line.{Line}

abbrev pub line_text : Line → List ℕ
line_text line = codes "version " ++ decimal line.version ++ codes " value " ++ decimal line.value
    ++ codes " steps " ++ decimal line.steps ++ codes " kept " ++ decimal line.kept

-- the sample program keeps the sample packet's 29 bytes, its successor none
abbrev pub first_lines : List Line
first_lines = record { version = 0; value = 65535; steps = 3; kept = 29 }
    ∷ record { version = 1; value = 0; steps = 1; kept = 0 } ∷ []

abbrev pub first_text : List ℕ
first_text = codes "version 0 value 65535 steps 3 kept 29\nversion 1 value 0 steps 1 kept 0\n"
