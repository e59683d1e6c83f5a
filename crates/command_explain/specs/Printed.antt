-- A code as the program prints it: after `refused ` or `failed `, or without, and before the numbers that say the place.
use Rattle.std.specs.Prelude.{◌≡◌, ◌<◌, ◌^◌, ◌++◌, Contains, IfSome, List, None, Option, Some, [], codes, decimal, ℕ}
use Rattle.command_explain.specs.Explanation.{codes_explained}

pub data Front : Type 0 where
  bare : Front
  refused : Front
  failed : Front

abbrev pub front_text : Front → List ℕ
front_text bare = []
front_text refused = codes "refused "
front_text failed = codes "failed "

abbrev pub number_text : Option ℕ → List ℕ
number_text None = []
number_text (Some number) = codes " " ++ decimal number

abbrev pub line_text : Option ℕ → List ℕ
line_text None = []
line_text (Some number) = codes " line " ++ decimal number

abbrev pub IsNumber : Option ℕ → Type 0
IsNumber number = IfSome number (λ n. n < 2 ^ 64)

-- the text is this code with what is printed around it
pub record ShowsCode (text code : List ℕ) (line : Option ℕ) : Type 0 where
  pub front : Front
  pub number : Option ℕ
  pub whole : text ≡ front_text front ++ (code ++ (number_text number ++ line_text line))
  pub is_code : Contains codes_explained code
  pub number_fits : IsNumber number
  pub line_fits : IsNumber line
