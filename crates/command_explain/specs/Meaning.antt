-- The meaning of a code, in one sentence (docs/COMMANDS.md, "tell" and "Rules files").
use Rattle.std.specs.Prelude.{◌&&◌, ◌==◌, ◌||◌, ◌∷◌, ◌++◌, Bool, List, None, Option, Some, [], codes, decimal, false, if◌then◌else◌, true, ℕ}
use Rattle.command_explain.specs.Explanation.{explanations, text_beside}

-- a dot before this ends a sentence: the text ends there, or a space or LF follows
abbrev pub ends_sentence : List ℕ → Bool
ends_sentence [] = true
ends_sentence (byte ∷ rest) = (byte == 32) || (byte == 10)

-- a text begins with a dot that ends a sentence
abbrev pub begins_with_end : List ℕ → Bool
begins_with_end [] = false
begins_with_end (byte ∷ rest) = (byte == 46) && ends_sentence rest

-- a text up to the first dot that ends a sentence, or all of it
abbrev pub first_sentence : List ℕ → List ℕ
first_sentence [] = []
first_sentence (byte ∷ rest) = if begins_with_end (byte ∷ rest) then byte ∷ [] else byte ∷ first_sentence rest

abbrev pub text_or : List ℕ → Option (List ℕ) → List ℕ
text_or code None = code
text_or code (Some text) = text

-- the first sentence of the explanation of a code, which begins with the code; or the code, if it has none
abbrev pub meaning_of : List ℕ → List ℕ
meaning_of code = first_sentence (text_or code (text_beside explanations code))

-- the line for people about a file of this name
abbrev pub file_line : List ℕ → List ℕ → List ℕ
file_line name code = name ++ (codes ": " ++ (meaning_of code ++ codes "\n"))

-- the line for people about a line of the input with this number, or without one
abbrev pub cause_line : Option ℕ → List ℕ → List ℕ
cause_line None cause = cause ++ codes "\n"
cause_line (Some number) cause = codes "line " ++ (decimal number ++ (codes ": " ++ (cause ++ codes "\n")))
