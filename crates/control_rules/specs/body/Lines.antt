-- The lines that read words.
use Rattle.std.specs.Prelude.{List, None, Option, Some, codes, decimal, ℕ}
use Rattle.ipv4_fields.specs.declared.endpoint.Endpoint.{Endpoint}
use Rattle.control_line.specs.Reading.{Reading, filter_words, selector_words}

abbrev pub words_reading : Endpoint → Option ℕ → ℕ → Reading
words_reading key None place = selector_words key place
words_reading key (Some id) place = filter_words key id place

-- the field of a line that names the program
abbrev pub owner_text : Option ℕ → List ℕ
owner_text None = codes "selector"
owner_text (Some id) = decimal id
